-- What turns of reading do, and how reading ends.
use Rattle.std.specs.Prelude.{◌≡◌, ◌⊎◌, ◌<◌, ◌≤◌, ℕ, List, length, take, Option, Result}
use Rattle.std.specs.Io.KnownBytes.{Consumes, Keeps, IsAtEnd, ReadConsumes}
use Rattle.std.specs.declared.io.Error.{Error}
use Rattle.polyover_engine.specs.Turns.{IsTurnOf, GoesWell, EndsBy, IsWornOut}
use Rattle.polyover_engine.specs.declared.turn.Turn.{Turn}
use Rattle.polyover_engine.specs.declared.turn.Turn.TheVariants.{Done, Interrupted, Failed}

-- what one turn does to the bytes that are known: it gives some of them, none only at the end or where there is no room
abbrev pub GivesBytes : Option (List ℕ) → Option (List ℕ) → List ℕ → Turn → Type 0
GivesBytes old new buf (Done n) = (n ≤ length buf) × Consumes old new (take n buf)
    × (n ≡ 0 → 0 < length buf → IsAtEnd new)
GivesBytes old new buf Interrupted = Keeps old new
GivesBytes old new buf Failed = Keeps old new

-- one turn is the answer of one call of `read`: std says what that does to the known bytes, and not when it fails
pub record IsReadTurn {R : Type 0} (remaining : R → Option (List ℕ)) (old : R) (room : ℕ) (turn : Turn) (new : R)
    : Type 0 where
  pub answer : Result ℕ Error
  pub buf : List ℕ
  pub room_is : room ≡ length buf
  pub called : ReadConsumes (remaining old) (remaining new) answer buf
  pub turn_is : IsTurnOf answer turn

module _ {R : Type 0} (remaining : R → Option (List ℕ)) (reads : R → ℕ → Turn → R → Type 0) where
  -- one turn of reading, with some room
  abbrev pub AsksReader : R → Turn → R → Type 0
  AsksReader old turn new = (room : ℕ) × reads old room turn new

  -- turns of reading, none of which failed
  abbrev pub ReadsOn : R → R → Type 0
  ReadsOn old new = GoesWell AsksReader old new

  -- the input was read to its end: no turn failed, the last one gave no byte though there was room, and none is left
  pub record IsRead (old new : R) : Type 0 where
    pub before : R
    pub well : GoesWell AsksReader old before
    pub room : ℕ
    pub has_room : 0 < room
    pub ended : reads before room (Done 0) new
    pub at_end : IsAtEnd (remaining new)

  -- reading failed: the last turn did, and none before it; or there was no end after 2^64 - 1 turns
  abbrev pub FailsReading : R → R → Type 0
  FailsReading old new = EndsBy AsksReader Failed old new ⊎ IsWornOut AsksReader old new
