-- Both tests tell that a point is smaller.
use Rattle.std.proofs.Common.{◌≡◌, ◌&&◌, true, ap, sym, ◌∙◌}
use Rattle.std.specs.Ordering.{is_lt}
use Rattle.overlay_geom.specs.Plane.{point_lt}
use Rattle.overlay_geom.specs.Resolved.{plain_edge}
use Rattle.overlay_geom.proofs.PointComparisons.{point_cmp-is_less}
use Rattle.overlay_geom.proofs.edge_pair.overlaps.Goals as goal

pub returns-then-is_lt : goal.returns-then-is_lt
returns-then-is_lt g c =
    let e = plain_edge g.I.IntNumber.whole c.args.e in
    let f = plain_edge g.I.IntNumber.whole c.args.f in
    let first : point_lt e.a f.b ≡ true =
    sym (point_cmp-is_less e.a f.b) ∙ ap is_lt (sym c.compare_points.ensures) ∙ sym c.is_lt.ensures ∙ c.if-is_lt.true in
    c.is_lt-then-is_lt.ensures ∙ ap is_lt c.compare_points-then-is_lt.ensures ∙ point_cmp-is_less f.a e.b
    ∙ ap (λ t. t && point_lt f.a e.b) (sym first)
