-- The corner farthest to the right lies to the left of the edge's line, so all points of the box do.
use Rattle.std.proofs.Common.{◌≡◌, pos, cond, int_lt, sym, ap, ◌∙◌, subst}
use Rattle.overlay_geom.specs.Numbers.{Within}
use Rattle.overlay_geom.specs.Plane.{Edge, Point}
use Rattle.overlay_geom.specs.Points.{plain_point, InRange}
use Rattle.overlay_geom.proofs.Comparisons.{Decides-int_lt}
use Rattle.overlay_order.specs.Content.{plain_edge}
use Rattle.overlay_pairs.specs.Bundles.{Bundle, IsLeftOfParallel, across, plain_bundle}
use Rattle.overlay_pairs.proofs.BundleBoxes.{left_by_corner, within_either}
use Rattle.overlay_pairs.proofs.beside.is_box_left.Goals as goal

pub is_left_of_parallel-requires-clause-q : goal.is_left_of_parallel-requires-clause-q
is_left_of_parallel-requires-clause-q g c =
    let limit = g.I.IntNumber.limit in
    let bundle = plain_bundle g.I.IntNumber.whole c.args.bundle.now in
    let held = c.requires.held in
    let e = plain_edge g.I.IntNumber.whole g.C.EdgeCount.counts c.args.e.now in
    subst (λ v. InRange limit (plain_point g.I.IntNumber.whole v)) (sym c.new-corner.ensures) (record {
      x = subst (Within limit) (sym (c.either-x.ensures ∙ ap (λ b. cond b bundle.west bundle.east) c.is_less.ensures))
          (within_either limit (int_lt e.b.y e.a.y) bundle.west bundle.east held.lowest.x held.highest.x);
      y = held.lowest.y;
    })

pub returns : goal.returns
returns g c = λ yes.
    let whole = g.I.IntNumber.whole in
    let bundle : Bundle = plain_bundle whole c.args.bundle.now in
    let e = plain_edge whole g.C.EdgeCount.counts c.args.e.now in
    let d : Edge = record { a = e.a; b = e.b } in
    let corner : Point = record { x = whole c.either-x.result; y = bundle.extent.low } in
    let is : plain_point whole c.new-corner.result ≡ corner = ap (plain_point whole) c.new-corner.ensures in
    left_by_corner g.I.IntNumber.limit bundle e c.requires.one (whole c.either-x.result)
    (c.either-x.ensures ∙ ap (λ b. cond b bundle.west bundle.east) c.is_less.ensures)
    (subst (λ v. IsLeftOfParallel d e.a v) is
    ((Decides-int_lt (pos 0) (across d e.a (plain_point whole c.new-corner.result))).0
    (sym c.is_left_of_parallel.ensures ∙ yes)))
