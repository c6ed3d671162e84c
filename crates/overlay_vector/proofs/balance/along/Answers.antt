-- Each term is a count of 32 bits, or 0.
use Rattle.std.proofs.Common.{cond, pos, ◌-ℤ◌, w32, ap, ap₂, ◌∙◌}
use Rattle.std.proofs.lemmas.Int.{to_z-of_z}
use Rattle.overlay_geom.specs.Plane.{point_eq}
use Rattle.overlay_geom.specs.Points.{plain_point}
use Rattle.overlay_vector.proofs.Sums.{subtracted}
use Rattle.overlay_vector.proofs.balance.along.Goals as goal

pub returns-clause-value : goal.returns-clause-value
returns-clause-value g c =
    let at = plain_point g.I.IntNumber.whole in
    let edge = c.args.edge.now in
    let p = at c.args.point in
    subtracted c.at.result c.at-2.result c.at.ensures.small c.at-2.ensures.small
    ∙ ap₂ (λ u v. u -ℤ v) c.at.ensures.value c.at-2.ensures.value
    ∙ ap (λ n. cond (point_eq (at edge.b) p) n (pos 0) -ℤ cond (point_eq (at edge.a) p) n (pos 0))
    (to_z-of_z w32 c.args.count c.ranges.count)
