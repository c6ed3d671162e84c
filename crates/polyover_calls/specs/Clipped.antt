-- How a clip of arrays ends.
use Rattle.std.specs.Prelude.{◌≡◌, ◌==◌, ◌<◌, ◌≤◌, ◌⊎◌, ℕ, ℤ, List}
use Rattle.overlay_geom.specs.Plane.{Point}
use Rattle.overlay_string.specs.OneShot.{AreClippedOfPaths, MayRefusePaths}
use Rattle.overlay_string.specs.declared.clip_rule.ClipRule.{ClipRule}
use Rattle.polyover_calls.specs.Asked.{fill_of, solver_of}
use Rattle.polyover_calls.specs.Given.{Contours, AreGiven}
use Rattle.polyover_calls.specs.Lines.{shape_and_lines}
use Rattle.polyover_calls.specs.Refusals.{AreBothRefused}
use Rattle.polyover_calls.specs.WrittenPaths.{PathRoom, EndsWithPaths}
use Rattle.polyover_calls.specs.declared.clip_options.ClipOptions.{ClipOptions}
use Rattle.polyover_calls.specs.declared.status.Status.{Status}
use Rattle.polyover_calls.specs.declared.status.Status.TheVariants.{BadFill, BadOption}

-- the clip rule with the numbers, where they are below 2
abbrev pub clip_rule_of : ClipOptions → ClipRule
clip_rule_of o = record { invert = o.invert == 1; boundary_included = o.boundary == 1 }

-- each of them is below 2
pub record AreClipChoices (o : ClipOptions) : Type 0 where
  pub invert : o.invert < 2
  pub boundary : o.boundary < 2
  pub solver : o.solver < 2

-- the numbers are known
abbrev pub AreClipNumbers : ℕ → ClipOptions → Type 0
AreClipNumbers fill options = (fill < 4) × AreClipChoices options

-- the numbers are known, shape and lines are given, and the paths are those that a clip of the lines by the shape
-- leaves, as the numbers ask, split by the solver that they ask for
pub record AreClips {I : Type 0} (whole : I → ℤ) (limit fill : ℕ) (options : ClipOptions) (shape lines : Contours I)
    (paths : List (List Point)) : Type 0 where
  pub known : AreClipNumbers fill options
  pub shape_given : AreGiven whole limit shape
  pub lines_given : AreGiven whole limit lines
  pub clipped : AreClippedOfPaths (solver_of options.solver) (fill_of fill) (clip_rule_of options)
      (shape_and_lines whole shape lines) paths

-- the first number that stands for nothing is told by the status
abbrev pub IsUnknownClip : ℕ → ClipOptions → Status → Type 0
IsUnknownClip fill options s = ((s ≡ BadFill) × (4 ≤ fill))
    ⊎ ((s ≡ BadOption) × ((fill < 4) × ¬ (AreClipChoices options)))

-- a clip is refused so: a number stands for nothing, the fill rule's first; else the arrays have a fault, those of the
-- shape first; else the query is refused
abbrev pub IsClipRefused : {I : Type 0} → (I → ℤ) → ℕ → ℕ → ClipOptions → Contours I → Contours I → Status → Type 0
IsClipRefused whole limit fill options shape lines = AreBothRefused whole limit (IsUnknownClip fill options)
    (AreClipNumbers fill options) shape lines
    (MayRefusePaths (solver_of options.solver) (shape_and_lines whole shape lines))

-- how it ends
abbrev pub ClipEnds : {I : Type 0} → (I → ℤ) → ℕ → ℕ → ClipOptions → Contours I → Contours I → PathRoom I →
    PathRoom I → Status → Type 0
ClipEnds whole limit fill options shape lines = EndsWithPaths (AreClips whole limit fill options shape lines)
    (IsClipRefused whole limit fill options shape lines) whole
