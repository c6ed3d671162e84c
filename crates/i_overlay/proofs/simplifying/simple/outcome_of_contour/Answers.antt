-- The core remembers whether the contour was refused.
use Rattle.std.proofs.Common.{[], ◌∷◌, ap, ◌∙◌}
use Rattle.overlay_geom.specs.Points.{plain_points}
use Rattle.overlay_geom.specs.declared.options.ShapeType.TheVariants.{Subject}
use Rattle.overlay_builder.specs.GivenPaths.{paths_for}
use Rattle.overlay_builder.specs.Held.{plain_held}
use Rattle.overlay_plane.specs.Carried.{edges_in}
use Rattle.i_overlay.proofs.AddedAlone.{answers_alone}
use Rattle.i_overlay.proofs.simplifying.simple.outcome_of_contour.Goals as goal

pub returns-clause-alone : goal.returns-clause-alone
returns-clause-alone g c =
    let e = c.add_and_test-outcome.ensures in
    answers_alone g.I.IntNumber.limit c.args.asked.solver c.args.asked.keeps_points
    (paths_for Subject (plain_points g.I.IntNumber.whole c.args.contour.now ∷ []))
    (plain_held c.add_and_test-outcome.new.core) (plain_held c.set_failed.new.self) c.add_and_test-outcome.result
    e.arranged e.content e.err (ap (λ h. edges_in h.edges) c.set_failed.ensures)
    (ap (λ h. h.failed) c.set_failed.ensures ∙ c.is_err.ensures.value)
