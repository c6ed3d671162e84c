-- The box so far is that of the paths so far, and the cursor stands at the next one.
use Rattle.std.proofs.Common.{take}
use Rattle.std.specs.Prelude.{IfSome}
use Rattle.overlay_tiles.specs.Spans.{IsBoxFound, points_of_paths}
use Rattle.overlay_tiles.proofs.span.bounds_of.Given as goal

abbrev pub invariant-loop-index : goal.invariant-loop-index
invariant-loop-index g l =
    IsBoxFound g.I.IntNumber.whole (points_of_paths (take l.index (g.R0.IntShapeResource.paths l.resource))) l.bounds
    × IfSome l.cursor (λ c. g.R0.IntShapeResource.stands_at l.resource c l.index)
