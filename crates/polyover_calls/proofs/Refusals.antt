-- Why a call on two lists of contours in arrays is not answered.
use Rattle.std.proofs.Common.{◌≡◌, ℕ, ℤ, sym, subst}
use Rattle.overlay_geom.specs.declared.error.OverlayError.{OverlayError}
use Rattle.overlay_geom.specs.declared.error.OverlayError.TheVariants as error
use Rattle.polyover_calls.specs.declared.fault.Fault.{Fault}
use Rattle.polyover_calls.specs.declared.fault.Fault.TheVariants as fault
use Rattle.polyover_calls.specs.Given.{Contours, AreGiven, AreUnread}
use Rattle.polyover_calls.specs.Refusals.{AreBothRefused}
use Rattle.polyover_calls.specs.Statuses.{status_of_fault, status_of_error}
use Rattle.polyover_calls.specs.declared.status.Status.{Status}
use Rattle.polyover_calls.specs.declared.status.Status.TheVariants.{Memory}

module _ {I : Type 0} (whole : I → ℤ) (limit : ℕ) (unknown : Status → Type 0) (known : Type 0)
    (first second : Contours I) (may : OverlayError → Type 0) where
  pub unread : may error.Memory → (f : Fault) → known → AreUnread whole limit first second f →
      AreBothRefused whole limit unknown known first second may (status_of_fault f)
  unread wanting fault.Memory are_known (one, other) = (are_known, (one, (other, wanting)))
  unread wanting fault.Ends are_known faulty = (are_known, faulty)
  unread wanting fault.Range are_known faulty = (are_known, faulty)

  pub without_memory : may error.Memory → (s : Status) → known → AreGiven whole limit first →
      AreGiven whole limit second → s ≡ Memory → AreBothRefused whole limit unknown known first second may s
  without_memory wanting s are_known one other same =
      subst (AreBothRefused whole limit unknown known first second may) (sym same)
      (are_known, (one, (other, wanting)))

  -- where what is asked does not fail, as no new builder does
  pub unanswered : ¬ (may error.Failed) → (e : OverlayError) → known → AreGiven whole limit first →
      AreGiven whole limit second → may e →
      AreBothRefused whole limit unknown known first second may (status_of_error e)
  unanswered never error.Memory are_known one other refused = (are_known, (one, (other, refused)))
  unanswered never error.NotSettled are_known one other refused = (are_known, (one, (other, refused)))
  unanswered never error.TooManyEdges are_known one other refused = (are_known, (one, (other, refused)))
  unanswered never error.Failed are_known one other refused = absurd (never refused)
