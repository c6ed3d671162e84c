-- What is wrong with the arguments of an overlay is told by one status: a number that stands for nothing, and then the
-- first fault of the arrays.
use Rattle.std.proofs.Common.{◌≡◌, inl, inr, ℕ, ℤ, refl, arith}
use Rattle.i_overlay.specs.Alone.{MayRefuseAlone}
use Rattle.overlay_geom.specs.declared.error.OverlayError.{OverlayError}
use Rattle.polyover_calls.specs.declared.fault.Fault.{Fault}
use Rattle.polyover_calls.specs.Asked.{solver_of, keeps_given, AreKnown, IsUnknown}
use Rattle.polyover_calls.specs.Determined.{TellsOfArguments, OneFault, FaultyArgumentsHaveNoAnswer}
use Rattle.polyover_calls.specs.Given.{Contours, paths_given, AreGiven, IsOneFaulty}
use Rattle.polyover_calls.specs.Overlays.{IsOverlayRefused}
use Rattle.polyover_calls.specs.declared.numbers.OptionNumbers.{OptionNumbers}
use Rattle.polyover_calls.specs.declared.status.Status.{Status}
use Rattle.polyover_calls.specs.declared.status.Status.TheVariants.{Done, Memory, BadEnds, OutOfRange}
use Rattle.polyover_calls.specs.declared.status.Status.TheVariants.{NotResolved, BadRule, BadFill, BadOption}
use Rattle.polyover_calls.specs.declared.status.Status.TheVariants.{NotSettled, TooManyEdges, TooSmall}
use Rattle.polyover_calls.proofs.EarlyFaults.{FaultsAreApart, one_refusal, no_answer_then}
use Rattle.polyover_calls.proofs.OneTest.{no_fault, one_fault}

-- ---- numbers

module _ {U : Type 0} (rule fill : ℕ) (options : OptionNumbers U) where
  -- the first number that stands for nothing is one
  pub one_unknown : (s t : Status) → IsUnknown rule fill options s → IsUnknown rule fill options t → s ≡ t
  one_unknown Done t a b = absurd a
  one_unknown Memory t a b = absurd a
  one_unknown BadEnds t a b = absurd a
  one_unknown OutOfRange t a b = absurd a
  one_unknown NotResolved t a b = absurd a
  one_unknown BadRule Done a b = absurd b
  one_unknown BadRule Memory a b = absurd b
  one_unknown BadRule BadEnds a b = absurd b
  one_unknown BadRule OutOfRange a b = absurd b
  one_unknown BadRule NotResolved a b = absurd b
  one_unknown BadRule BadRule a b = refl
  one_unknown BadRule BadFill a b = absurd (let more = a in let less = b.0 in omega (arith, more, less))
  one_unknown BadRule BadOption a b = absurd (let more = a in let less = b.0 in omega (arith, more, less))
  one_unknown BadRule NotSettled a b = absurd b
  one_unknown BadRule TooManyEdges a b = absurd b
  one_unknown BadRule TooSmall a b = absurd b
  one_unknown BadFill Done a b = absurd b
  one_unknown BadFill Memory a b = absurd b
  one_unknown BadFill BadEnds a b = absurd b
  one_unknown BadFill OutOfRange a b = absurd b
  one_unknown BadFill NotResolved a b = absurd b
  one_unknown BadFill BadRule a b = absurd (let more = b in let less = a.0 in omega (arith, more, less))
  one_unknown BadFill BadFill a b = refl
  one_unknown BadFill BadOption a b = absurd (let more = a.1 in let less = b.1.0 in omega (arith, more, less))
  one_unknown BadFill NotSettled a b = absurd b
  one_unknown BadFill TooManyEdges a b = absurd b
  one_unknown BadFill TooSmall a b = absurd b
  one_unknown BadOption Done a b = absurd b
  one_unknown BadOption Memory a b = absurd b
  one_unknown BadOption BadEnds a b = absurd b
  one_unknown BadOption OutOfRange a b = absurd b
  one_unknown BadOption NotResolved a b = absurd b
  one_unknown BadOption BadRule a b = absurd (let more = b in let less = a.0 in omega (arith, more, less))
  one_unknown BadOption BadFill a b = absurd (let more = b.1 in let less = a.1.0 in omega (arith, more, less))
  one_unknown BadOption BadOption a b = refl
  one_unknown BadOption NotSettled a b = absurd b
  one_unknown BadOption TooManyEdges a b = absurd b
  one_unknown BadOption TooSmall a b = absurd b
  one_unknown NotSettled t a b = absurd a
  one_unknown TooManyEdges t a b = absurd a
  one_unknown TooSmall t a b = absurd a

  -- and then not all are known
  pub not_known : (s : Status) → IsUnknown rule fill options s → ¬ (AreKnown rule fill options)
  not_known Done a known = a
  not_known Memory a known = a
  not_known BadEnds a known = a
  not_known OutOfRange a known = a
  not_known NotResolved a known = a
  not_known BadRule a known = let more = a in let less = known.0 in omega (arith, more, less)
  not_known BadFill a known = let more = a.1 in let less = known.1.0 in omega (arith, more, less)
  not_known BadOption a known = a.1.1 known.1.1
  not_known NotSettled a known = a
  not_known TooManyEdges a known = a
  not_known TooSmall a known = a

-- ---- arrays

module _ {I : Type 0} (whole : I → ℤ) (limit : ℕ) (subject clip : Contours I) where
  -- the first fault of two lists of contours is one
  one_faulty : (f g : Fault) → IsOneFaulty whole limit subject clip f → IsOneFaulty whole limit subject clip g → f ≡ g
  one_faulty f g (inl a) (inl b) = one_fault whole limit subject.coordinates subject.ends f g a b
  one_faulty f g (inl a) (inr (given, b)) = absurd (no_fault whole limit subject.coordinates subject.ends given f a)
  one_faulty f g (inr (given, a)) (inl b) = absurd (no_fault whole limit subject.coordinates subject.ends given g b)
  one_faulty f g (inr (given, a)) (inr (given', b)) = one_fault whole limit clip.coordinates clip.ends f g a b

  -- and then not both are given
  not_given : (f : Fault) → IsOneFaulty whole limit subject clip f → AreGiven whole limit subject →
      ¬ (AreGiven whole limit clip)
  not_given f (inl a) first second = no_fault whole limit subject.coordinates subject.ends first f a
  not_given f (inr (given, a)) first second = no_fault whole limit clip.coordinates clip.ends second f a

  abbrev pub AreBothGiven : Type 0
  AreBothGiven = AreGiven whole limit subject × AreGiven whole limit clip

  -- so the faults of a call on both are apart, where numbers are tested first
  pub both_apart : (unknown : Status → Type 0) (known : Type 0) → ((s t : Status) → unknown s → unknown t → s ≡ t) →
      ((s : Status) → unknown s → ¬ known) →
      FaultsAreApart unknown known (IsOneFaulty whole limit subject clip) AreBothGiven
  both_apart unknown known one not = record {
    one_unknown = one;
    not_known = not;
    one_own = one_faulty;
    not_given = λ f own given. not_given f own given.0 given.1;
  }

-- ---- the laws

module _ {I U : Type 0} (whole : I → ℤ) (limit rule fill : ℕ) (options : OptionNumbers U)
    (subject clip : Contours I) where
  abbrev MayBoth : OverlayError → Type 0
  MayBoth e = AreGiven whole limit subject × (AreGiven whole limit clip
      × MayRefuseAlone (keeps_given options) (solver_of options.solver) (paths_given whole subject clip) e)

  apart : FaultsAreApart (IsUnknown rule fill options) (AreKnown rule fill options)
      (IsOneFaulty whole limit subject clip) (AreBothGiven whole limit subject clip)
  apart = both_apart whole limit subject clip (IsUnknown rule fill options) (AreKnown rule fill options)
      (one_unknown rule fill options) (not_known rule fill options)

  one_of_overlay : (s t : Status) → TellsOfArguments s → IsOverlayRefused whole limit rule fill options subject clip s →
      IsOverlayRefused whole limit rule fill options subject clip t → s ≡ t
  one_of_overlay = one_refusal (IsUnknown rule fill options) (AreKnown rule fill options)
      (IsOneFaulty whole limit subject clip) (AreBothGiven whole limit subject clip) apart MayBoth
      (λ e m. (m.0, m.1.0))

  none_of_overlay : (s : Status) → TellsOfArguments s →
      IsOverlayRefused whole limit rule fill options subject clip s → AreKnown rule fill options →
      ¬ (AreBothGiven whole limit subject clip)
  none_of_overlay = no_answer_then (IsUnknown rule fill options) (AreKnown rule fill options)
      (IsOneFaulty whole limit subject clip) (AreBothGiven whole limit subject clip) apart MayBoth
      (λ e m. (m.0, m.1.0))

pub one_fault_of_overlays : {I U : Type 0} (whole : I → ℤ) (limit : ℕ) → OneFault U whole limit
one_fault_of_overlays whole limit rule fill options subject clip s t tells tells' a b =
    one_of_overlay whole limit rule fill options subject clip s t tells a b

pub faulty_arguments_have_no_answer : {I U : Type 0} (whole : I → ℤ) (limit : ℕ) →
    FaultyArgumentsHaveNoAnswer U whole limit
faulty_arguments_have_no_answer whole limit rule fill options subject clip s tells a known first second =
    none_of_overlay whole limit rule fill options subject clip s tells a known (first, second)
