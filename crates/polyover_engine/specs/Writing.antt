-- What turns of writing do, and how writing ends.
use Rattle.std.specs.Prelude.{◌≡◌, ◌≢◌, ◌⊎◌, ◌<◌, ◌≤◌, ℕ, List, length, take, Option, Result, Ok, Err}
use Rattle.std.specs.Io.KnownBytes.{Appends, Keeps, WriteAppends}
use Rattle.std.specs.declared.io.Error.{Error}
use Rattle.polyover_engine.specs.Turns.{IsTurnOf, GoesWell, EndsBy, IsWornOut}
use Rattle.polyover_engine.specs.Written.{AppendsBeginning}
use Rattle.polyover_engine.specs.declared.turn.Turn.{Turn}
use Rattle.polyover_engine.specs.declared.turn.Turn.TheVariants.{Done, Interrupted, Failed}

-- what one turn of writing does to the bytes that are known: they grow by a beginning of the text
abbrev pub TakesBytes : Option (List ℕ) → Option (List ℕ) → List ℕ → Turn → Type 0
TakesBytes old new text (Done n) = (n ≤ length text) × Appends old new (take n text)
TakesBytes old new text Interrupted = Keeps old new
TakesBytes old new text Failed = Keeps old new

-- one turn is the answer of one call of `write`: std says what that does to the known bytes, and not when it fails
pub record IsWriteTurn {W : Type 0} (contents : W → Option (List ℕ)) (old : W) (count : ℕ) (turn : Turn) (new : W)
    : Type 0 where
  pub answer : Result ℕ Error
  pub text : List ℕ
  pub count_is : count ≡ length text
  pub called : WriteAppends (contents old) (contents new) answer text
  pub turn_is : IsTurnOf answer turn

-- a success counts no byte
abbrev pub counts_none : Result (Unit {0}) Error → Result ℕ Error
counts_none (Ok v) = Ok 0
counts_none (Err e) = Err e

-- likewise of one call of `flush`, whose success counts no byte
pub record IsFlushTurn {W : Type 0} (contents : W → Option (List ℕ)) (old : W) (turn : Turn) (new : W) : Type 0 where
  pub answer : Result (Unit {0}) Error
  pub called : Keeps (contents old) (contents new)
  pub turn_is : IsTurnOf (counts_none answer) turn

module _ {W : Type 0} (contents : W → Option (List ℕ)) (writes : W → ℕ → Turn → W → Type 0)
    (flushes : W → Turn → W → Type 0) where
  -- one turn of writing some bytes, which did not take none, or of flushing
  abbrev pub AsksWriter : W → Turn → W → Type 0
  AsksWriter old turn new = ((count : ℕ) × (turn ≢ Done 0) × writes old count turn new) ⊎ flushes old turn new

  -- the text was taken, and flushed after its last byte, and no turn failed
  pub record IsWritten (text : List ℕ) (old new : W) : Type 0 where
    pub before : W
    pub well : GoesWell AsksWriter old before
    pub taken : Appends (contents old) (contents before) text
    pub count : ℕ
    pub flushed : flushes before (Done count) new
    pub written : Appends (contents old) (contents new) text

  -- after turns none of which failed, the last one was to write a byte or more, and took none
  pub record TakesNone (old new : W) : Type 0 where
    pub before : W
    pub well : GoesWell AsksWriter old before
    pub count : ℕ
    pub has_bytes : 0 < count
    pub took_none : writes before count (Done 0) new

  -- writing failed: the last turn did, and none before it, or it took no byte; or there was no end after 2^64 - 1 turns
  abbrev pub StopsWriting : W → W → Type 0
  StopsWriting old new = EndsBy AsksWriter Failed old new ⊎ TakesNone old new ⊎ IsWornOut AsksWriter old new

  -- writing failed, with a beginning of the text taken
  pub record FailsWriting (text : List ℕ) (old new : W) : Type 0 where
    pub fault : StopsWriting old new
    pub written : AppendsBeginning (contents old) (contents new) text
