-- A status that tells what is wrong with arguments is the only one. Numbers are tested first, then arrays. An answer,
-- or a refusal of a query, is there only where all of them stand for something.
use Rattle.std.proofs.Common.{◌≡◌, ◌⊎◌, inl, inr, refl, sym, ap, subst, ◌∙◌}
use Rattle.overlay_geom.specs.declared.error.OverlayError.{OverlayError}
use Rattle.overlay_geom.specs.declared.error.OverlayError.TheVariants as error
use Rattle.polyover_calls.specs.Determined.{TellsOfArguments}
use Rattle.polyover_calls.specs.Held.{HeldArrays, AreHeld, EndsHeld, no_arrays}
use Rattle.polyover_calls.specs.Put.{IsPutSo, EndsInto}
use Rattle.polyover_calls.specs.Statuses.{IsRefused, status_of_fault}
use Rattle.polyover_calls.specs.declared.fault.Fault.{Fault}
use Rattle.polyover_calls.specs.declared.fault.Fault.TheVariants as fault
use Rattle.polyover_calls.specs.declared.status.Status.{Status}
use Rattle.polyover_calls.specs.declared.status.Status.TheVariants.{Done, Memory, BadEnds, OutOfRange}
use Rattle.polyover_calls.specs.declared.status.Status.TheVariants.{NotResolved, BadRule, BadFill, BadOption}
use Rattle.polyover_calls.specs.declared.status.Status.TheVariants.{NotSettled, TooManyEdges, TooSmall}

-- what is told of the arguments of a call: the number that stands for nothing, or the fault of arrays. It is one, and
-- there is no answer then
pub record FaultsAreApart (unknown : Status → Type 0) (known : Type 0) (own : Fault → Type 0) (given : Type 0) : Type 0
  where
    pub one_unknown : (s t : Status) → unknown s → unknown t → s ≡ t
    pub not_known : (s : Status) → unknown s → ¬ known
    pub one_own : (f g : Fault) → own f → own g → f ≡ g
    pub not_given : (f : Fault) → own f → ¬ given

-- a status of an answer that is put into arrays tells nothing of arguments
pub put_late : {R : Type 0} (has_room : Type 0) (written counted new : R) (s : Status) →
    IsPutSo has_room written counted new s → ¬ (TellsOfArguments s)
put_late has_room written counted new Done put tells = tells
put_late has_room written counted new Memory put tells = put
put_late has_room written counted new BadEnds put tells = put
put_late has_room written counted new OutOfRange put tells = put
put_late has_room written counted new NotResolved put tells = put
put_late has_room written counted new BadRule put tells = put
put_late has_room written counted new BadFill put tells = put
put_late has_room written counted new BadOption put tells = put
put_late has_room written counted new NotSettled put tells = put
put_late has_room written counted new TooManyEdges put tells = put
put_late has_room written counted new TooSmall put tells = tells

-- nor does `Done`
pub done_late : (s : Status) → s ≡ Done → ¬ (TellsOfArguments s)
done_late s is tells = subst TellsOfArguments is tells

module _ (unknown : Status → Type 0) (known : Type 0) (own : Fault → Type 0) (given : Type 0)
    (apart : FaultsAreApart unknown known own given)
    (may : OverlayError → Type 0) (after : (e : OverlayError) → may e → given) where
  -- a refusal: a number stands for nothing, arrays have a fault, or the query is refused
  abbrev Refused : Status → Type 0
  Refused = IsRefused unknown (λ f. known × own f) (λ e. known × may e)

  -- what is wrong
  abbrev IsWrong : Status → Type 0
  IsWrong s = unknown s ⊎ ((f : Fault) × (s ≡ status_of_fault f) × known × own f)

  -- a refusal that tells of arguments tells what is wrong
  wrong : (s : Status) → TellsOfArguments s → Refused s → IsWrong s
  wrong Done tells a = absurd tells
  wrong Memory tells a = absurd tells
  wrong BadEnds tells a = inr (fault.Ends, refl, a.0, a.1)
  wrong OutOfRange tells a = inr (fault.Range, refl, a.0, a.1)
  wrong NotResolved tells a = absurd tells
  wrong BadRule tells a = inl a
  wrong BadFill tells a = inl a
  wrong BadOption tells a = inl a
  wrong NotSettled tells a = absurd tells
  wrong TooManyEdges tells a = absurd tells
  wrong TooSmall tells a = absurd tells

  -- any other comes where nothing is
  tells_or_not : (s : Status) → Refused s → TellsOfArguments s ⊎ (known × given)
  tells_or_not Done a = absurd a
  tells_or_not Memory a = inr (a.0, after error.Memory a.1)
  tells_or_not BadEnds a = inl tt
  tells_or_not OutOfRange a = inl tt
  tells_or_not NotResolved a = absurd a
  tells_or_not BadRule a = inl tt
  tells_or_not BadFill a = inl tt
  tells_or_not BadOption a = inl tt
  tells_or_not NotSettled a = inr (a.0, after error.NotSettled a.1)
  tells_or_not TooManyEdges a = inr (a.0, after error.TooManyEdges a.1)
  tells_or_not TooSmall a = absurd a

  -- what is wrong is one thing
  one_wrong : (s t : Status) → IsWrong s → IsWrong t → s ≡ t
  one_wrong s t (inl u) (inl v) = apart.one_unknown s t u v
  one_wrong s t (inl u) (inr w) = absurd (apart.not_known s u w.2)
  one_wrong s t (inr w) (inl v) = absurd (apart.not_known t v w.2)
  one_wrong s t (inr w) (inr x) = w.1 ∙ ap status_of_fault (apart.one_own w.0 x.0 w.3 x.3) ∙ sym x.1

  -- and then there is no answer
  no_answer : (s : Status) → IsWrong s → known → ¬ given
  no_answer s (inl u) are_known = λ are_given. apart.not_known s u are_known
  no_answer s (inr w) are_known = λ are_given. apart.not_given w.0 w.3 are_given

  pub no_answer_then : (s : Status) → TellsOfArguments s → Refused s → known → ¬ given
  no_answer_then s tells a = no_answer s (wrong s tells a)

  -- two refusals of the same arguments
  pub one_refusal : (s t : Status) → TellsOfArguments s → Refused s → Refused t → s ≡ t
  one_refusal s t tells a b = by (tells_or_not t b)
    where
      by : TellsOfArguments t ⊎ (known × given) → s ≡ t
      by (inl tells') = one_wrong s t (wrong s tells a) (wrong t tells' b)
      by (inr both) = absurd (no_answer s (wrong s tells a) both.0 both.1)

  -- two ends of calls with the same arguments, which write an answer into arrays
  module _ {F R : Type 0} (IsAnswer : F → Type 0) (AreWritten : F → R → R → Status → Type 0)
      (answered : (f : F) → IsAnswer f → known × given)
      (late : (f : F) (old new : R) (s : Status) → AreWritten f old new s → ¬ (TellsOfArguments s)) where
    pub one_end : (old new other newer : R) (s t : Status) → TellsOfArguments s →
        EndsInto IsAnswer AreWritten Refused old new s → EndsInto IsAnswer AreWritten Refused other newer t → s ≡ t
    one_end old new other newer s t tells (inl put) b = absurd (late put.answer old new s put.put tells)
    one_end old new other newer s t tells (inr a) (inl put) =
        let both = answered put.answer put.right in
        absurd (no_answer s (wrong s tells a.1) both.0 both.1)
    one_end old new other newer s t tells (inr a) (inr b) = one_refusal s t tells a.1 b.1

  -- or which hand it out
  pub one_held : {F I : Type 0} (IsAnswer : F → Type 0) (arrays : F → HeldArrays I) →
      ((f : F) → IsAnswer f → known × given) → (held others : HeldArrays I) (s t : Status) → TellsOfArguments s →
      EndsHeld IsAnswer arrays Refused held s → EndsHeld IsAnswer arrays Refused others t → s ≡ t
  one_held IsAnswer arrays answered held others = one_end IsAnswer (AreHeld arrays) answered
      (λ f old new s are. done_late s are.0) no_arrays held no_arrays others

  -- or which tell it, where it is there, with `Done`
  module _ (Told Kept OtherTold OtherKept : Type 0) (told : OtherTold → known × given) where
    pub one_telling : (s t : Status) → TellsOfArguments s → ((s ≡ Done) × Told) ⊎ (Kept × Refused s) →
        ((t ≡ Done) × OtherTold) ⊎ (OtherKept × Refused t) → s ≡ t
    one_telling s t tells (inl a) b = absurd (done_late s a.0 tells)
    one_telling s t tells (inr a) (inl b) =
        let both = told b.1 in
        absurd (no_answer s (wrong s tells a.1) both.0 both.1)
    one_telling s t tells (inr a) (inr b) = one_refusal s t tells a.1 b.1
