-- How a call ends whose answer is put into arrays.
use Rattle.std.proofs.Common.{◌≡◌, ℕ, inl, inr, refl, sym, subst}
use Rattle.polyover_calls.specs.Held.{HeldArrays, IsGiven}
use Rattle.polyover_calls.specs.Put.{EndsInto}
use Rattle.polyover_calls.specs.Statuses.{code_of}
use Rattle.polyover_calls.specs.declared.status.Status.{Status}

module _ {F R : Type 0} (IsAnswer : F → Type 0) (AreWritten : F → R → R → Status → Type 0)
    (refused : Status → Type 0) where
  -- an answer is there, and put into the arrays
  pub put_ends : (answer : F) (old new : R) (s : Status) → IsAnswer answer → AreWritten answer old new s →
      EndsInto IsAnswer AreWritten refused old new s
  put_ends answer old new s right put = inl (record { answer = answer; right = right; put = put })

  -- or it is refused, and nothing changes
  pub refused_ends : (old : R) (s : Status) → refused s → EndsInto IsAnswer AreWritten refused old old s
  refused_ends old s is = inr (refl, is)

-- what is handed out is what a call ends with
pub given : {I : Type 0} (ends : HeldArrays I → Status → Type 0) (held arrays : HeldArrays I) (s : Status) (code : ℕ) →
    ends held s → arrays ≡ held → code ≡ code_of s → IsGiven ends arrays code
given ends held arrays s code so same told =
    record { status = s; so = subst (λ a. ends a s) (sym same) so; told = told }
