-- What is handed out is what a call ends with.
use Rattle.std.proofs.Common.{◌≡◌, ℕ, sym, subst}
use Rattle.overlay_traced.specs.Told.{TracedArrays}
use Rattle.polyover_calls.specs.Statuses.{code_of}
use Rattle.polyover_calls.specs.declared.status.Status.{Status}
use Rattle.polyover_traced.specs.Held.{IsGivenTrace}

pub given : {I : Type 0} (ends : TracedArrays I → Status → Type 0) (traced arrays : TracedArrays I) (s : Status)
    (code : ℕ) → ends traced s → arrays ≡ traced → code ≡ code_of s → IsGivenTrace ends arrays code
given ends traced arrays s code so same told =
    record { status = s; so = subst (λ a. ends a s) (sym same) so; told = told }
