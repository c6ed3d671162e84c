-- How the slicing of arrays by options ends.
use Rattle.std.specs.Prelude.{◌≡◌, ℕ, ℤ, List}
use Rattle.std.specs.Int.{Width}
use Rattle.overlay_extract.specs.Results.{Asked, asked}
use Rattle.overlay_geom.specs.Plane.{Point}
use Rattle.overlay_string.specs.OneShot.{MayRefusePaths}
use Rattle.polyover_calls.specs.Asked.{rule_of, fill_of, solver_of, options_of, AreKnown, IsUnknown}
use Rattle.polyover_calls.specs.EndsOnce.{HandsOnce}
use Rattle.polyover_calls.specs.Given.{Contours, AreGiven}
use Rattle.polyover_calls.specs.Held.{HeldArrays, EndsHeld, shape_arrays}
use Rattle.polyover_calls.specs.Lines.{shape_and_lines}
use Rattle.polyover_calls.specs.Refusals.{AreBothRefused}
use Rattle.polyover_calls.specs.Written.{IsFlat}
use Rattle.polyover_calls.specs.declared.numbers.OptionNumbers.{OptionNumbers}
use Rattle.polyover_calls.specs.declared.status.Status.{Status}
use Rattle.polyover_slices.specs.Slices.{AreSlicesOfPaths}

-- what the numbers ask for: the direction, the smallest area and the fill rule
abbrev pub asked_slices : {U : Type 0} → Width → (U → ℕ) → ℕ → OptionNumbers U → Asked
asked_slices width natural fill options = asked width natural (fill_of fill) (rule_of 0) (options_of options)

-- the numbers are known, subject and lines are given, and the shapes are those into which the lines slice the subject
-- as the numbers ask, split by the solver
pub record AreSlicesAsAsked {I U : Type 0} (whole : I → ℤ) (limit : ℕ) (width : Width) (natural : U → ℕ) (fill : ℕ)
    (options : OptionNumbers U) (subject lines : Contours I) (shapes : List (List (List Point))) : Type 0 where
  pub known : AreKnown 0 fill options
  pub subject_given : AreGiven whole limit subject
  pub lines_given : AreGiven whole limit lines
  pub sliced : AreSlicesOfPaths (solver_of options.solver) (asked_slices width natural fill options)
      (shape_and_lines whole subject lines) shapes

-- a slicing is refused so: a number stands for nothing, the fill rule's first; else the arrays have a fault, those of
-- the subject first; else the query is refused
abbrev pub IsAskedSlicingRefused : {I U : Type 0} → (I → ℤ) → ℕ → ℕ → OptionNumbers U → Contours I → Contours I →
    Status → Type 0
IsAskedSlicingRefused whole limit fill options subject lines = AreBothRefused whole limit (IsUnknown 0 fill options)
    (AreKnown 0 fill options) subject lines
    (MayRefusePaths (solver_of options.solver) (shape_and_lines whole subject lines))

-- how it ends
abbrev pub AskedSlicesAreHeld : {I U : Type 0} → (I → ℤ) → ℕ → Width → (U → ℕ) → ℕ → OptionNumbers U → Contours I →
    Contours I → HeldArrays I → Status → Type 0
AskedSlicesAreHeld whole limit width natural fill options subject lines =
    EndsHeld (IsFlat (AreSlicesAsAsked whole limit width natural fill options subject lines) whole) shape_arrays
    (IsAskedSlicingRefused whole limit fill options subject lines)

-- by snap rounding two slicings of the same arrays as the same numbers ask hand out the same, unless memory is refused
abbrev pub SlicesAreAskedOnce : {I U : Type 0} → (I → ℤ) → ℕ → Width → (U → ℕ) → Type 0
SlicesAreAskedOnce {I = I} {U = U} whole limit width natural = (fill : ℕ) (options : OptionNumbers U)
    (subject lines : Contours I) → options.solver ≡ 0 →
    HandsOnce (AskedSlicesAreHeld whole limit width natural fill options subject lines)
