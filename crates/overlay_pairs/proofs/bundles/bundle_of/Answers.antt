-- Both lines are the edge's own, and the box is that of its ends.
use Rattle.std.proofs.Common.{int_lt, sym, ap, subst}
use Rattle.overlay_geom.specs.Numbers.{Within}
use Rattle.overlay_geom.specs.Plane.{Edge}
use Rattle.overlay_geom.proofs.Signs.{linear}
use Rattle.overlay_order.specs.Content.{plain_edge}
use Rattle.overlay_pairs.specs.Bundles.{Bundle}
use Rattle.overlay_pairs.specs.Extents.{Extent, plain_extent, Encloses}
use Rattle.overlay_pairs.proofs.BundleBoxes.{ends_in_box, within_either}
use Rattle.overlay_pairs.proofs.BundleLines.{across_none, across_sum, both_on_line}
use Rattle.overlay_pairs.proofs.ExtentBlocks.{covers_itself}
use Rattle.overlay_pairs.proofs.bundles.bundle_of.Goals as goal

pub returns-clause-held : goal.returns-clause-held
returns-clause-held g c =
    let limit = g.I.IntNumber.limit in
    let e = plain_edge g.I.IntNumber.whole g.C.EdgeCount.counts c.args.e.now in
    let a = c.requires.one.a_in_range in
    let b = c.requires.one.b_in_range in
    record {
      lowest = record {
        x = a.x;
        y = subst (Within limit) (sym (ap (λ (s : Extent). s.low) c.requires.own))
            (within_either limit (int_lt e.a.y e.b.y) e.a.y e.b.y a.y b.y);
      };
      highest = record {
        x = b.x;
        y = subst (Within limit) (sym (ap (λ (s : Extent). s.high) c.requires.own))
            (within_either limit (int_lt e.a.y e.b.y) e.b.y e.a.y b.y a.y);
      };
      a = a;
      b = b;
      left = a;
      right = a;
    }

pub returns-clause-holds : goal.returns-clause-holds
returns-clause-holds g c =
    let whole = g.I.IntNumber.whole in
    let e = plain_edge whole g.C.EdgeCount.counts c.args.e.now in
    let box = plain_extent whole c.args.extent in
    let d : Edge = record { a = e.a; b = e.b } in
    let none = across_none d e.a in
    let ahead = both_on_line d in
    let back = across_sum d e.a e.b e.a in
    let bundle : Bundle = record { extent = box; west = e.a.x; east = e.b.x; along = d; left = e.a; right = e.a } in
    let inside = ends_in_box g.I.IntNumber.limit bundle e c.args.extent.first c.requires.one
    (subst (Encloses box) c.requires.own (covers_itself box)) (omega linear) (omega linear) in
    record {
      box = covers_itself box;
      a = record { left = omega linear; right = omega linear };
      b = record { left = omega linear; right = omega linear };
      a_in = inside.0;
      b_in = inside.1;
    }
