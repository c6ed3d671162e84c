-- The contours of the shapes so far are added.
use Rattle.std.proofs.Common.{take, Ok}
use Rattle.overlay_geom.specs.Paths.{paths_of_shapes}
use Rattle.overlay_builder.specs.GivenPaths.{paths_for}
use Rattle.overlay_relate.specs.PredicateBuilder.{PredicateBuilderAdds}
use Rattle.overlay_relate.proofs.predicate_overlay.PredicateOverlay.add_shapes.Given as goal

abbrev pub invariant-loop-shape : goal.invariant-loop-shape
invariant-loop-shape g l =
    PredicateBuilderAdds {V = Unit {0}} (paths_for l.shape_type
    (paths_of_shapes g.I.IntNumber.whole (take l.shape-index l.shapes))) l.initial.self l.self (Ok tt)
