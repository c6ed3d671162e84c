-- The shapes are resolved.
use Rattle.std.proofs.Common.{All, sym, subst}
use Rattle.overlay_geom.specs.Paths.{plain_shapes}
use Rattle.overlay_geom.specs.Resolved.{IsResolved}
use Rattle.overlay_relate.proofs.containment.IntShapesIntPointContainment.locate_points.Goals as goal

pub locate_in_shapes-requires-clause-resolved : goal.locate_in_shapes-requires-clause-resolved
locate_in_shapes-requires-clause-resolved g c =
    subst (λ xs. All (All IsResolved) (plain_shapes g.I.IntNumber.whole xs)) (sym c.deref.ensures.value)
    c.requires.resolved
