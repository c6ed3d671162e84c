-- The contour alone has balanced counts.
use Rattle.std.proofs.Common.{[], ◌∷◌}
use Rattle.overlay_geom.specs.Points.{plain_points}
use Rattle.overlay_geom.specs.declared.options.ShapeType.TheVariants.{Subject}
use Rattle.overlay_builder.specs.GivenPaths.{paths_for}
use Rattle.overlay_builder.specs.Held.{plain_held}
use Rattle.i_overlay.proofs.HeldAlone.{balanced_alone}
use Rattle.i_overlay.proofs.overlay.Overlay.outcome_alone.Goals as goal

pub invariant_of-self : goal.invariant_of-self
invariant_of-self g c = balanced_alone g.I.IntNumber.limit c.self.inside.solver
    c.self.inside.options.preserve_input_collinear
    (paths_for Subject (plain_points g.I.IntNumber.whole c.args.contour.now ∷ []))
    (plain_held c.outcome_of_contour.new.core) c.outcome_of_contour.result c.outcome_of_contour.ensures.alone
