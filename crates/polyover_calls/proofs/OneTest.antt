-- Arrays that have contours have no fault, and one fault alone comes first.
use Rattle.std.proofs.Common.{◌≡◌, ℕ, ℤ, List, length, Ok, Err, refl, ap}
use Rattle.std.proofs.lemmas.Bool.{both_ways}
use Rattle.polyover_calls.specs.Arrays.{are_ends}
use Rattle.polyover_calls.specs.ArrayLaws.{OneTest, OneTestOfPoints}
use Rattle.polyover_calls.specs.Reading.{AreContours, ArePoints, HaveOwnFault, PointsHaveOwnFault}
use Rattle.polyover_calls.specs.declared.fault.Fault.{Fault}
use Rattle.polyover_calls.specs.declared.fault.Fault.TheVariants.{Memory, Ends, Range}

module _ {I : Type 0} (whole : I → ℤ) (limit : ℕ) (cs : List I) where
  module _ (ends : List ℕ) where
    pub no_fault : AreContours whole limit cs ends → (f : Fault) → ¬ (HaveOwnFault whole limit cs ends f)
    no_fault are Memory fault = fault
    no_fault are Ends fault = both_ways (are_ends ends (length cs)) fault are.fit
    no_fault are Range fault = fault.1 are.within

    pub one_fault : (f g : Fault) → HaveOwnFault whole limit cs ends f → HaveOwnFault whole limit cs ends g → f ≡ g
    one_fault Memory g a b = absurd a
    one_fault Ends Memory a b = absurd b
    one_fault Ends Ends a b = refl
    one_fault Ends Range a b = absurd (both_ways (are_ends ends (length cs)) a b.0)
    one_fault Range Memory a b = absurd b
    one_fault Range Ends a b = absurd (both_ways (are_ends ends (length cs)) b a.0)
    one_fault Range Range a b = refl

  pub no_fault_of_points : ArePoints whole limit cs → (f : Fault) → ¬ (PointsHaveOwnFault whole limit cs f)
  no_fault_of_points are Memory fault = fault
  no_fault_of_points are Ends fault = fault are.even
  no_fault_of_points are Range fault = fault.1 are.within

  pub one_fault_of_points : (f g : Fault) → PointsHaveOwnFault whole limit cs f → PointsHaveOwnFault whole limit cs g →
      f ≡ g
  one_fault_of_points Memory g a b = absurd a
  one_fault_of_points Ends Memory a b = absurd b
  one_fault_of_points Ends Ends a b = refl
  one_fault_of_points Ends Range a b = absurd (a b.0)
  one_fault_of_points Range Memory a b = absurd b
  one_fault_of_points Range Ends a b = absurd (b a.0)
  one_fault_of_points Range Range a b = refl

pub one_test : {I : Type 0} (whole : I → ℤ) (limit : ℕ) → OneTest whole limit
one_test whole limit cs ends (Ok v) (Ok w) a b = refl
one_test whole limit cs ends (Ok v) (Err f) a b = absurd (no_fault whole limit cs ends a f b)
one_test whole limit cs ends (Err f) (Ok v) a b = absurd (no_fault whole limit cs ends b f a)
one_test whole limit cs ends (Err f) (Err g) a b = ap Err (one_fault whole limit cs ends f g a b)

pub one_test_of_points : {I : Type 0} (whole : I → ℤ) (limit : ℕ) → OneTestOfPoints whole limit
one_test_of_points whole limit cs (Ok v) (Ok w) a b = refl
one_test_of_points whole limit cs (Ok v) (Err f) a b = absurd (no_fault_of_points whole limit cs a f b)
one_test_of_points whole limit cs (Err f) (Ok v) a b = absurd (no_fault_of_points whole limit cs b f a)
one_test_of_points whole limit cs (Err f) (Err g) a b = ap Err (one_fault_of_points whole limit cs f g a b)
