-- The paths alone have balanced counts.
use Rattle.overlay_geom.specs.declared.options.ShapeType.TheVariants.{Subject}
use Rattle.overlay_builder.specs.GivenPaths.{paths_for}
use Rattle.overlay_builder.specs.Held.{plain_held}
use Rattle.i_overlay.proofs.HeldAlone.{balanced_alone}
use Rattle.i_overlay.proofs.overlay.Overlay.hold_alone.Goals as goal

pub invariant_of-self : goal.invariant_of-self
invariant_of-self g c = balanced_alone g.I.IntNumber.limit c.self.inside.solver
    c.self.inside.options.preserve_input_collinear
    (paths_for Subject (g.R0.IntShapeResource.paths c.args.resource.now))
    (plain_held c.arrange_alone.new.core) c.arrange_alone.result c.arrange_alone.ensures
