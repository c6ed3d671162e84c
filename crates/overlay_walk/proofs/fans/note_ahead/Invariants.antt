-- The notes stay right, and there are as many.
use Rattle.std.proofs.Common.{◌≡◌, ◌-◌, ◌≤◌, Bool, ℕ, List, length}
use Rattle.overlay_walk.specs.Fans.{AreTaken, AreTakenAhead}
use Rattle.overlay_walk.proofs.fans.note_ahead.Given as goal

abbrev pub invariant-loop-index : goal.invariant-loop-index
invariant-loop-index l =
    (l.fn.low ≤ l.index) × (length l.ahead ≡ length l.fn.ahead)
    × ((marks : List Bool) (fanned : List ℕ) → AreTaken marks fanned l.fn.low l.at →
    AreTakenAhead marks fanned l.fn.ahead → AreTakenAhead marks fanned l.ahead)

abbrev pub decreases-loop-index : goal.decreases-loop-index
decreases-loop-index l = l.at - l.index
