-- Turns of reading and writing, one after another.
use Rattle.std.specs.Prelude.{◌≡◌, ◌≢◌, ◌^◌, ◌-◌, ◌≤◌, ℕ, List, [], ◌∷◌, length, Result, Ok, Err}
use Rattle.std.specs.IoError.{error_kind}
use Rattle.std.specs.declared.io.Error.{Error}
use Rattle.std.specs.declared.io.ErrorKind.TheVariants as kind
use Rattle.polyover_engine.specs.declared.turn.Turn.{Turn}
use Rattle.polyover_engine.specs.declared.turn.Turn.TheVariants.{Done, Interrupted, Failed}

-- the turn that a call's own answer makes: exactly an error other than an interruption fails it
abbrev pub IsTurnOf : Result ℕ Error → Turn → Type 0
IsTurnOf (Ok n) turn = turn ≡ Done n
IsTurnOf (Err e) (Done n) = ⊥
IsTurnOf (Err e) Interrupted = error_kind e ≡ kind.Interrupted
IsTurnOf (Err e) Failed = error_kind e ≢ kind.Interrupted

module _ {S : Type 0} (asks : S → Turn → S → Type 0) where
  -- turns that ended so, the last one first, lead from one state to another, and none of them failed
  abbrev pub TakesTurns : List Turn → S → S → Type 0
  TakesTurns [] old new = new ≡ old
  TakesTurns (turn ∷ turns) old new = (before : S) × TakesTurns turns old before × asks before turn new
      × (turn ≢ Failed)

  -- turns were taken, and none of them failed
  pub record GoesWell (old new : S) : Type 0 where
    pub turns : List Turn
    pub taken : TakesTurns turns old new

  -- after turns none of which failed, one more ended so
  pub record EndsBy (turn : Turn) (old new : S) : Type 0 where
    pub before : S
    pub well : GoesWell old before
    pub last : asks before turn new

  -- 2^64 - 1 turns or more were taken, none of which failed
  pub record IsWornOut (old new : S) : Type 0 where
    pub well : GoesWell old new
    pub many : 2 ^ 64 - 1 ≤ length (well.turns)
