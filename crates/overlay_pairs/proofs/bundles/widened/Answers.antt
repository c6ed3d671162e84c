-- Both ends are reached, and the box is joined with the edge's.
use Rattle.std.proofs.Common.{◌≤ℤ◌, int_lt, sym, ap, subst}
use Rattle.overlay_geom.specs.Numbers.{Within}
use Rattle.overlay_order.specs.Content.{plain_edge}
use Rattle.overlay_pairs.specs.Bundles.{plain_bundle}
use Rattle.overlay_pairs.specs.Extents.{Extent, plain_extent, Encloses}
use Rattle.overlay_pairs.proofs.BundleBoxes.{ends_in_box, within_either}
use Rattle.overlay_pairs.proofs.BundleLines.{boxed, widened_by}
use Rattle.overlay_pairs.proofs.FarEdges.{greater_from, lesser_up_to}
use Rattle.overlay_pairs.proofs.bundles.widened.Goals as goal

pub returns-clause-held : goal.returns-clause-held
returns-clause-held g c =
    let whole = g.I.IntNumber.whole in
    let limit = g.I.IntNumber.limit in
    let e = plain_edge whole g.C.EdgeCount.counts c.args.e.now in
    let old = plain_bundle whole c.args.bundle in
    let held = c.requires.held in
    let s = plain_extent whole c.args.extent in
    let first = c.requires.one.a_in_range in
    let last = c.requires.one.b_in_range in
    let low : Within limit s.low = subst (Within limit) (sym (ap (λ (t : Extent). t.low) c.requires.own))
    (within_either limit (int_lt e.a.y e.b.y) e.a.y e.b.y first.y last.y) in
    let high : Within limit s.high = subst (Within limit) (sym (ap (λ (t : Extent). t.high) c.requires.own))
    (within_either limit (int_lt e.a.y e.b.y) e.b.y e.a.y last.y first.y) in
    let lines = c.reached-reached.ensures.held in
    record {
      lowest = record {
        x = subst (Within limit) (sym c.ordered.ensures.low)
            (within_either limit (int_lt old.west e.a.x) old.west e.a.x held.lowest.x first.x);
        y = subst (Within limit) (sym c.joined-joined.ensures.low)
            (within_either limit (int_lt old.extent.low s.low) old.extent.low s.low held.lowest.y low);
      };
      highest = record {
        x = subst (Within limit) (sym c.ordered-2.ensures.high)
            (within_either limit (int_lt old.east e.b.x) e.b.x old.east last.x held.highest.x);
        y = subst (Within limit) (sym c.joined-joined.ensures.high)
            (within_either limit (int_lt old.extent.high s.high) s.high old.extent.high high held.highest.y);
      };
      a = lines.a;
      b = lines.b;
      left = lines.left;
      right = lines.right;
    }

pub returns-clause-holds : goal.returns-clause-holds
returns-clause-holds g c =
    let whole = g.I.IntNumber.whole in
    let e = plain_edge whole g.C.EdgeCount.counts c.args.e.now in
    let old = plain_bundle whole c.args.bundle in
    let new = plain_bundle whole c.reached-reached.result in
    let s = plain_extent whole c.args.extent in
    let box = plain_extent whole c.joined-joined.result in
    let west = whole c.ordered.result.0 in
    let east = whole c.ordered-2.result.1 in
    let at_west = lesser_up_to old.west e.a.x in
    let at_east = greater_from old.east e.b.x in
    let of_west = subst (λ w. (w ≤ℤ old.west) × (w ≤ℤ e.a.x)) (sym c.ordered.ensures.low) at_west in
    let of_east = subst (λ w. (old.east ≤ℤ w) × (e.b.x ≤ℤ w)) (sym c.ordered-2.ensures.high) at_east in
    let inside = ends_in_box g.I.IntNumber.limit (boxed new box west east) e c.args.extent.first c.requires.one
    (subst (Encloses box) c.requires.own c.joined-joined.ensures.second) of_west.1 of_east.1 in
    (widened_by old (plain_bundle whole c.reached.result) new box s west east e c.reached.ensures.reached
    c.reached-reached.ensures.reached c.joined-joined.ensures.first c.joined-joined.ensures.second of_west.0
    of_east.0 inside).0

pub returns-clause-widened : goal.returns-clause-widened
returns-clause-widened g c =
    let whole = g.I.IntNumber.whole in
    let e = plain_edge whole g.C.EdgeCount.counts c.args.e.now in
    let old = plain_bundle whole c.args.bundle in
    let new = plain_bundle whole c.reached-reached.result in
    let s = plain_extent whole c.args.extent in
    let box = plain_extent whole c.joined-joined.result in
    let west = whole c.ordered.result.0 in
    let east = whole c.ordered-2.result.1 in
    let at_west = lesser_up_to old.west e.a.x in
    let at_east = greater_from old.east e.b.x in
    let of_west = subst (λ w. (w ≤ℤ old.west) × (w ≤ℤ e.a.x)) (sym c.ordered.ensures.low) at_west in
    let of_east = subst (λ w. (old.east ≤ℤ w) × (e.b.x ≤ℤ w)) (sym c.ordered-2.ensures.high) at_east in
    let inside = ends_in_box g.I.IntNumber.limit (boxed new box west east) e c.args.extent.first c.requires.one
    (subst (Encloses box) c.requires.own c.joined-joined.ensures.second) of_west.1 of_east.1 in
    (widened_by old (plain_bundle whole c.reached.result) new box s west east e c.reached.ensures.reached
    c.reached-reached.ensures.reached c.joined-joined.ensures.first c.joined-joined.ensures.second of_west.0
    of_east.0 inside).1
