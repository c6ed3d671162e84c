-- How a run ends is determined by the input, where memory is not refused and reading and writing do not fail: the line
-- that is bad, and that a bad input has no answer.
use Rattle.std.specs.Prelude.{◌≡◌, ℕ, List, Option, Some}
use Rattle.overlay_geom.specs.declared.error.OverlayError.{OverlayError}
use Rattle.overlay_geom.specs.declared.error.OverlayError.TheVariants.{Memory}
use Rattle.polyover_engine.specs.Answers.{Answers, IsAnswer}
use Rattle.polyover_engine.specs.Engine.{IsBadInput, IsRefused, EndsAs}
use Rattle.polyover_engine.specs.declared.exit.Exit.{Exit}
use Rattle.polyover_engine.specs.declared.exit.Exit.TheVariants.{Answered, Refused, BadInput, Io}
use Rattle.polyover_engine.specs.declared.turn.Turn.{Turn}
use Rattle.polyover_text.specs.Grammar.{GivenFigures}
use Rattle.polyover_text.specs.declared.query.Query.TheVariants.{Locate}

-- one line of a bad input is bad
abbrev pub OneBadInput : Type 0
OneBadInput = (bytes : List ℕ) (n m : ℕ) → IsBadInput bytes n → IsBadInput bytes m → n ≡ m

-- no text answers a bad input
abbrev pub BadInputsHaveNoAnswer : Type 0
BadInputsHaveNoAnswer = (bytes text : List ℕ) (n : ℕ) → IsBadInput bytes n → ¬ (IsAnswer bytes text)

-- and what it asks for is not refused, but for memory
abbrev pub BadInputsAreNotRefused : Type 0
BadInputsAreNotRefused = (bytes : List ℕ) (n : ℕ) (e : OverlayError) → ¬ (e ≡ Memory) → IsBadInput bytes n →
    ¬ (IsRefused bytes e)

-- one text tells where points lie
abbrev pub OneTextOfLocations : Type 0
OneTextOfLocations = (fs : GivenFigures) (first second : List ℕ) → Answers fs Locate first → Answers fs Locate second →
    first ≡ second

-- ---- runs

-- the exit tells of the input: it was answered, or is bad
abbrev pub TellsOfInput : Exit → Type 0
TellsOfInput Answered = Unit {0}
TellsOfInput (Refused e) = ⊥
TellsOfInput (BadInput n) = Unit {0}
TellsOfInput Io = ⊥

-- two exits that tell of one input are one
abbrev pub OneExit : {R W : Type 0} → (R → Option (List ℕ)) → (R → ℕ → Turn → R → Type 0) → (W → Option (List ℕ)) →
    (W → ℕ → Turn → W → Type 0) → (W → Turn → W → Type 0) → Type 0
OneExit {R = R} {W = W} remaining reads contents writes flushes = (bytes : List ℕ) (r0 r1 r2 : R) (w0 w1 w2 : W)
    (first second : Exit) → remaining r0 ≡ Some bytes → TellsOfInput first → TellsOfInput second →
    EndsAs remaining reads contents writes flushes r0 r1 w0 w1 first →
    EndsAs remaining reads contents writes flushes r0 r2 w0 w2 second → first ≡ second
