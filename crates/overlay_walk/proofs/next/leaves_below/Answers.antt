-- The points are compared as whole points.
use Rattle.std.proofs.Common.{sym, ap, ◌∙◌}
use Rattle.overlay_geom.specs.Plane.{Step, point_lt}
use Rattle.overlay_geom.specs.Points.{plain_point}
use Rattle.overlay_geom.proofs.Mapped.{read_mapped}
use Rattle.overlay_plane.specs.Turn.{no_step}
use Rattle.overlay_walk.specs.Steps.{plain_step}
use Rattle.overlay_walk.proofs.next.leaves_below.Goals as goal

pub returns : goal.returns
returns g c =
    let whole = g.I.IntNumber.whole in
    let p = plain_point whole c.args.p in
    c.is_before.ensures ∙ ap (λ t. point_lt (plain_step whole t).from p) (sym c.index-steps-place.is)
    ∙ ap (λ (t : Step). point_lt t.from p) (sym (read_mapped (plain_step whole) c.args.steps.now c.args.place
    c.index-steps-place.result no_step c.requires c.index-steps-place.is))
