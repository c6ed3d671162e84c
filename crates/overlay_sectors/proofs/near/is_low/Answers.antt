-- The end of the edge that leads from the point is not right of the other edge.
use Rattle.std.proofs.Common.{◌≡◌, not, sym, ap, subst, ◌∙◌}
use Rattle.std.specs.Ordering.{is_lt}
use Rattle.overlay_geom.specs.Edges.{ends_of}
use Rattle.overlay_geom.specs.Plane.{in_plane, side, cross_at}
use Rattle.overlay_geom.specs.Points.{InRange}
use Rattle.overlay_geom.specs.Resolved.{plain_edge as plain_int_edge}
use Rattle.overlay_order.specs.Content.{plain_edge}
use Rattle.overlay_relate.proofs.OnEdges.{side-whole}
use Rattle.overlay_sectors.specs.Rays.{plain_ray, IsRayHeld}
use Rattle.overlay_sectors.specs.Sectors.{far_end, is_low}
use Rattle.overlay_sectors.proofs.NearTests.{sign_is_up, far_end_in_range}
use Rattle.overlay_sectors.proofs.near.is_low.Goals as goal

pub cross_at-requires-clause-q : goal.cross_at-requires-clause-q
cross_at-requires-clause-q g c =
    let whole = g.I.IntNumber.whole in
    subst (InRange g.I.IntNumber.limit) (sym c.far_end.ensures)
    (far_end_in_range g.I.IntNumber.limit c.args.flank (plain_int_edge whole c.in-Some.ray)
    (subst (λ r. IsRayHeld g.I.IntNumber.limit (plain_ray whole r)) c.in-Some.is c.requires.ray))

pub returns-in-Some : goal.returns-in-Some
returns-in-Some g c =
    let whole = g.I.IntNumber.whole in
    let e = ends_of (plain_edge whole g.C.EdgeCount.counts c.args.e.now) in
    let v = far_end c.args.flank (plain_int_edge whole c.in-Some.ray) in
    subst (λ r. not c.is_lt.result ≡ is_low c.args.flank (plain_ray whole r) e) (sym c.in-Some.is)
    (ap not c.is_lt.ensures ∙ ap (λ o. not (is_lt o)) c.sign.ensures
    ∙ sign_is_up (g.I.Wide.WideIntNumber.whole c.cross_at.result) (side e (in_plane v))
    (c.cross_at.ensures.value ∙ ap (cross_at e.a e.b) c.far_end.ensures ∙ sym (side-whole e v)))
