-- One contour more.
use Rattle.std.proofs.Common.{◌∷◌, [], take, sym, subst}
use Rattle.overlay_geom.specs.Paths.{paths_of_shape}
use Rattle.overlay_geom.specs.Points.{plain_points}
use Rattle.overlay_geom.proofs.Mapped.{mapped_more}
use Rattle.overlay_relate.specs.Runs.{IsRunOver}
use Rattle.overlay_relate.proofs.RunsOver.{run_over_both}
use Rattle.overlay_relate.proofs.runs.run_over_all.Goals as goal

pub loop-contour-preserved : goal.loop-contour-preserved
loop-contour-preserved g c =
    let whole = g.I.IntNumber.whole in
    let points = plain_points whole c.args.points.now in
    let seen = paths_of_shape whole (take c.loop-contour.contour-index c.args.contours.now) in
    let here = plain_points whole c.contour-item.result.items in
    let run = c.run_over.result in
    let hull = c.hull-run.result in
    subst (λ cs. IsRunOver cs points hull.0 hull.1)
    (sym (mapped_more (λ x. plain_points whole x.items) c.args.contours.now c.loop-contour.contour-index
    c.contour-item.result c.loop-contour-test.true c.contour-item.is))
    (run_over_both seen (here ∷ []) points c.loop-contour.run.0 c.loop-contour.run.1 run.0 run.1 hull.0 hull.1
    c.loop-contour.invariant
    (subst (λ ps. IsRunOver (plain_points whole ps ∷ []) points run.0 run.1) c.deref.ensures.value c.run_over.ensures)
    c.hull-run.ensures)
