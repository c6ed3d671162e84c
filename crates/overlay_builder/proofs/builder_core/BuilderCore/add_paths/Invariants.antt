-- The paths before this one are added, and the cursor stands at this one.
use Rattle.std.specs.Prelude.{IfSome}
use Rattle.overlay_builder.specs.PathLists.{carried_weight}
use Rattle.overlay_builder.specs.Paths.{passed_edge}
use Rattle.overlay_builder.proofs.SourcePaths.{HasAddedFirst}
use Rattle.overlay_builder.proofs.builder_core.BuilderCore.add_paths.Given as goal

abbrev pub invariant-loop-index : goal.invariant-loop-index
invariant-loop-index g l =
    HasAddedFirst carried_weight l.kind (passed_edge g.C.EdgeCount.counts l.passing)
    (g.R0.IntShapeResource.paths l.resource) l.index
    l.initial.self l.self
    × IfSome l.cursor (λ c. g.R0.IntShapeResource.stands_at l.resource c l.index)
