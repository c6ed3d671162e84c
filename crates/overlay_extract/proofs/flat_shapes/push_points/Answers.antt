-- The points of long steps are in range.
use Rattle.std.proofs.Common.{sym, ap, ◌∙◌, subst}
use Rattle.overlay_geom.specs.Points.{plain_points, AllInRange}
use Rattle.overlay_walk.specs.Steps.{plain_steps}
use Rattle.overlay_walk.proofs.SelectedLong.{points_in_range}
use Rattle.overlay_extract.proofs.flat_shapes.push_points.Goals as goal

pub push_thinned-requires : goal.push_thinned-requires
push_thinned-requires g c =
    let whole = g.I.IntNumber.whole in
    let same = ap (plain_points whole) c.deref-2.ensures.value ∙ c.in_ok-write_points.ensures.ok in
    subst (AllInRange g.I.IntNumber.limit) (sym same)
    (points_in_range g.I.IntNumber.limit (plain_steps whole c.args.walk.now) c.requires)
