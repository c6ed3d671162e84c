-- How the simplification of a shape in arrays ends that tells whether it stays as it is given.
use Rattle.std.specs.Prelude.{◌≡◌, ℕ, ℤ, Bool, List}
use Rattle.std.specs.Int.{Width}
use Rattle.overlay_extract.specs.Results.{asked}
use Rattle.overlay_geom.specs.Plane.{Point}
use Rattle.overlay_geom.specs.Rules.{bit}
use Rattle.polyover_calls.specs.Asked.{rule_of, fill_of, solver_of, options_of, keeps_given, AreKnown}
use Rattle.polyover_calls.specs.EndsOnce.{HandsOnce}
use Rattle.polyover_calls.specs.Given.{Contours, paths_of, AreGiven}
use Rattle.polyover_calls.specs.Held.{AreHeld, HeldArrays, arrays_of, no_arrays, shape_arrays}
use Rattle.polyover_calls.specs.Put.{EndsInto}
use Rattle.polyover_calls.specs.Simplified.{IsSimplifyingRefused}
use Rattle.polyover_calls.specs.Statuses.{code_of}
use Rattle.polyover_calls.specs.Written.{AreFlattened, Flat}
use Rattle.polyover_calls.specs.declared.numbers.OptionNumbers.{OptionNumbers}
use Rattle.polyover_calls.specs.declared.status.Status.{Status}
use Rattle.polyover_simple.specs.Simplified.{AreSimplifiedSo}
use Rattle.polyover_simple.specs.declared.told.Told.{Told}

-- shapes in arrays, and a number that tells whether the contours stay as they are given
pub record ToldFlat (I : Type 0) : Type 0 where
  pub flat : Flat I
  pub as_given : ℕ

-- arrays that are held, and that number
pub record ToldArrays (I : Type 0) : Type 0 where
  pub arrays : HeldArrays I
  pub as_given : ℕ

-- those of shapes, of a result, and of nothing
abbrev pub told_arrays : {I : Type 0} → ToldFlat I → ToldArrays I
told_arrays t = record { arrays = shape_arrays t.flat; as_given = t.as_given }

abbrev pub told_of : {I : Type 0} → Told I → ToldArrays I
told_of t = record { arrays = arrays_of t.outcome.held; as_given = t.as_given }

abbrev pub told_with : {I : Type 0} → HeldArrays I → ℕ → ToldArrays I
told_with arrays as_given = record { arrays = arrays; as_given = as_given }

abbrev pub nothing_told : {I : Type 0} → ToldArrays I
nothing_told = told_with no_arrays 0

-- the numbers are known, the contours are given, and the arrays have the shapes that they are simplified to, as the
-- numbers ask, split by the solver; the number is 1 where they stay as they are given, else 0
pub record AreToldShapes {I U : Type 0} (whole : I → ℤ) (limit : ℕ) (width : Width) (natural : U → ℕ) (fill : ℕ)
    (options : OptionNumbers U) (given : Contours I) (t : ToldFlat I) : Type 0 where
  pub known : AreKnown 0 fill options
  pub are_given : AreGiven whole limit given
  pub shapes : List (List (List Point))
  pub stay : Bool
  pub simplified : AreSimplifiedSo (solver_of options.solver)
      (asked width natural (fill_of fill) (rule_of 0) (options_of options)) (keeps_given options)
      (paths_of whole given) shapes stay
  pub flattened : AreFlattened whole shapes t.flat
  pub told : t.as_given ≡ bit stay 1

-- how it ends
abbrev pub ToldShapesAreHeld : {I U : Type 0} → (I → ℤ) → ℕ → Width → (U → ℕ) → ℕ → OptionNumbers U → Contours I →
    ToldArrays I → Status → Type 0
ToldShapesAreHeld whole limit width natural fill options given =
    EndsInto (AreToldShapes whole limit width natural fill options given) (AreHeld told_arrays)
    (IsSimplifyingRefused whole limit fill options given) nothing_told

-- what C is given: the arrays, the number, and the code of the status with which a call ends so
pub record AreGivenTold {I : Type 0} (ends : ToldArrays I → Status → Type 0) (arrays : HeldArrays I)
    (as_given code : ℕ) : Type 0 where
  pub status : Status
  pub so : ends (told_with arrays as_given) status
  pub told : code ≡ code_of status

-- by snap rounding two runs hand out the same and tell alike, unless memory is refused
abbrev pub ShapesAreToldOnce : {I U : Type 0} → (I → ℤ) → ℕ → Width → (U → ℕ) → Type 0
ShapesAreToldOnce {I = I} {U = U} whole limit width natural = (fill : ℕ) (options : OptionNumbers U)
    (given : Contours I) → options.solver ≡ 0 →
    HandsOnce (ToldShapesAreHeld whole limit width natural fill options given)
