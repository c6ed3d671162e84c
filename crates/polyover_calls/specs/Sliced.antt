-- How the slicing of arrays ends.
use Rattle.std.specs.Prelude.{ℕ, ℤ, List}
use Rattle.std.specs.Int.{Width}
use Rattle.overlay_geom.specs.Plane.{Point}
use Rattle.overlay_string.specs.OneShot.{MayRefusePaths}
use Rattle.overlay_string.specs.StringSlices.{AreSlicedOfPaths}
use Rattle.polyover_calls.specs.Asked.{fill_of, solver_of}
use Rattle.polyover_calls.specs.Given.{Contours, AreGiven}
use Rattle.polyover_calls.specs.Lines.{shape_and_lines}
use Rattle.polyover_calls.specs.Refusals.{AreQueryNumbers, IsQueryRefused}
use Rattle.polyover_calls.specs.Written.{Room, EndsWithShapes}
use Rattle.polyover_calls.specs.declared.status.Status.{Status}

-- the numbers are known, subject and lines are given, and the shapes are those into which the lines slice the subject,
-- split by the solver
pub record AreSlices {I : Type 0} (whole : I → ℤ) (limit : ℕ) (width : Width) (fill solver : ℕ)
    (subject lines : Contours I) (shapes : List (List (List Point))) : Type 0 where
  pub known : AreQueryNumbers fill solver
  pub subject_given : AreGiven whole limit subject
  pub lines_given : AreGiven whole limit lines
  pub sliced : AreSlicedOfPaths (solver_of solver) width (fill_of fill) (shape_and_lines whole subject lines) shapes

-- a slicing is refused so: a number stands for nothing, the fill rule's first; else the arrays have a fault, those of
-- the subject first; else the query is refused
abbrev pub IsSlicingRefused : {I : Type 0} → (I → ℤ) → ℕ → ℕ → ℕ → Contours I → Contours I → Status → Type 0
IsSlicingRefused whole limit fill solver subject lines = IsQueryRefused whole limit fill solver subject lines
    (MayRefusePaths (solver_of solver) (shape_and_lines whole subject lines))

-- how it ends
abbrev pub SlicingEnds : {I : Type 0} → (I → ℤ) → ℕ → Width → ℕ → ℕ → Contours I → Contours I → Room I → Room I →
    Status → Type 0
SlicingEnds whole limit width fill solver subject lines =
    EndsWithShapes (AreSlices whole limit width fill solver subject lines)
    (IsSlicingRefused whole limit fill solver subject lines) whole
