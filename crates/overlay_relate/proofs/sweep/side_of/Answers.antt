-- The side of the point by the line, from its larger end.
use Rattle.std.proofs.Common.{pos, ap, ◌∙◌}
use Rattle.std.specs.Ordering.{int_cmp}
use Rattle.overlay_geom.specs.Plane.{Edge, cross_at}
use Rattle.overlay_geom.specs.Points.{plain_point}
use Rattle.overlay_relate.proofs.sweep.side_of.Goals as goal

pub returns : goal.returns
returns g c =
    let p = plain_point g.I.IntNumber.whole c.args.p in
    c.sign.ensures
    ∙ ap (λ z. int_cmp z (pos 0)) (c.cross_at.ensures.value ∙ ap (λ (e : Edge). cross_at e.b e.a p) c.edge_at-e.ensures)
