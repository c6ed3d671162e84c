-- Writing to the end.
use Rattle.std.specs.Prelude.{ℕ, List, Option}
use Rattle.polyover_engine.specs.Writing.{IsWritten, FailsWriting}
use Rattle.polyover_engine.specs.declared.turn.Turn.{Turn}
use Rattle.polyover_engine.specs.declared.exit.Exit.{Exit}
use Rattle.polyover_engine.specs.declared.exit.Exit.TheVariants.{Answered, Refused, BadInput, Io}

module _ {W : Type 0} (contents : W → Option (List ℕ)) (writes : W → ℕ → Turn → W → Type 0)
    (flushes : W → Turn → W → Type 0) (text : List ℕ) (old new : W) where
  -- the text is out and flushed, or writing failed
  abbrev pub EndsWriting : Exit → Type 0
  EndsWriting Answered = IsWritten contents writes flushes text old new
  EndsWriting (Refused e) = ⊥
  EndsWriting (BadInput n) = ⊥
  EndsWriting Io = FailsWriting contents writes flushes text old new
