-- What becomes of the arrays of a caller where an answer is there, and how a call ends.
use Rattle.std.specs.Prelude.{◌≡◌, ◌⊎◌}
use Rattle.polyover_calls.specs.declared.status.Status.{Status}
use Rattle.polyover_calls.specs.declared.status.Status.TheVariants.{Done, Memory, BadEnds, OutOfRange}
use Rattle.polyover_calls.specs.declared.status.Status.TheVariants.{NotResolved, BadRule, BadFill, BadOption}
use Rattle.polyover_calls.specs.declared.status.Status.TheVariants.{NotSettled, TooManyEdges, TooSmall}

-- they have room, and it is written; or they have not, and stay, and the counts alone are those of the answer
abbrev pub IsPutSo : {R : Type 0} → Type 0 → R → R → R → Status → Type 0
IsPutSo has_room written counted new Done = has_room × (new ≡ written)
IsPutSo has_room written counted new Memory = ⊥
IsPutSo has_room written counted new BadEnds = ⊥
IsPutSo has_room written counted new OutOfRange = ⊥
IsPutSo has_room written counted new NotResolved = ⊥
IsPutSo has_room written counted new BadRule = ⊥
IsPutSo has_room written counted new BadFill = ⊥
IsPutSo has_room written counted new BadOption = ⊥
IsPutSo has_room written counted new NotSettled = ⊥
IsPutSo has_room written counted new TooManyEdges = ⊥
IsPutSo has_room written counted new TooSmall = ¬ has_room × (new ≡ counted)

-- such an answer is put into the arrays
pub record IsPutInto {F R : Type 0} (IsAnswer : F → Type 0) (AreWritten : F → R → R → Status → Type 0) (old new : R)
    (s : Status) : Type 0 where
  pub answer : F
  pub right : IsAnswer answer
  pub put : AreWritten answer old new s

-- so a call ends: such an answer is put into the arrays, or it is refused, and nothing of them changes
abbrev pub EndsInto : {F R : Type 0} → (F → Type 0) → (F → R → R → Status → Type 0) → (Status → Type 0) → R → R →
    Status → Type 0
EndsInto IsAnswer AreWritten refused old new s = IsPutInto IsAnswer AreWritten old new s ⊎ ((new ≡ old) × refused s)
