-- The corner farthest to the left lies to the right of the edge's line, so all points of the box do.
use Rattle.std.proofs.Common.{◌≡◌, pos, cond, int_lt, sym, ap, ◌∙◌, subst}
use Rattle.overlay_geom.specs.Numbers.{Within}
use Rattle.overlay_geom.specs.Plane.{Edge, Point}
use Rattle.overlay_geom.specs.Points.{plain_point, InRange}
use Rattle.overlay_geom.proofs.Comparisons.{Decides-int_lt}
use Rattle.overlay_order.specs.Content.{plain_edge}
use Rattle.overlay_pairs.specs.Bundles.{Bundle, IsLeftOfParallel, across, plain_bundle}
use Rattle.overlay_pairs.proofs.BundleBoxes.{right_by_corner, within_either}
use Rattle.overlay_pairs.proofs.beside.is_box_right.Goals as goal

pub is_left_of_parallel-requires-clause-p : goal.is_left_of_parallel-requires-clause-p
is_left_of_parallel-requires-clause-p g c =
    let limit = g.I.IntNumber.limit in
    let bundle = plain_bundle g.I.IntNumber.whole c.args.bundle.now in
    let held = c.requires.held in
    let e = plain_edge g.I.IntNumber.whole g.C.EdgeCount.counts c.args.e.now in
    subst (λ v. InRange limit (plain_point g.I.IntNumber.whole v)) (sym c.new-corner.ensures) (record {
      x = subst (Within limit) (sym (c.either-x.ensures ∙ ap (λ b. cond b bundle.east bundle.west) c.is_less.ensures))
          (within_either limit (int_lt e.b.y e.a.y) bundle.east bundle.west held.highest.x held.lowest.x);
      y = held.highest.y;
    })

pub returns : goal.returns
returns g c = λ yes.
    let whole = g.I.IntNumber.whole in
    let bundle : Bundle = plain_bundle whole c.args.bundle.now in
    let e = plain_edge whole g.C.EdgeCount.counts c.args.e.now in
    let d : Edge = record { a = e.a; b = e.b } in
    let corner : Point = record { x = whole c.either-x.result; y = bundle.extent.high } in
    let is : plain_point whole c.new-corner.result ≡ corner = ap (plain_point whole) c.new-corner.ensures in
    right_by_corner g.I.IntNumber.limit bundle e c.requires.one (whole c.either-x.result)
    (c.either-x.ensures ∙ ap (λ b. cond b bundle.east bundle.west) c.is_less.ensures)
    (subst (λ v. IsLeftOfParallel d v e.a) is
    ((Decides-int_lt (pos 0) (across d (plain_point whole c.new-corner.result) e.a)).0
    (sym c.is_left_of_parallel.ensures ∙ yes)))
