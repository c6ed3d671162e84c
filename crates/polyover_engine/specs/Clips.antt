-- The open paths of an input, clipped by its subject.
use Rattle.std.specs.Prelude.{◌≡◌, ◌++◌, ℕ, false, List, Result, MatchResult}
use Rattle.overlay_geom.specs.Edges.{CountedEdge}
use Rattle.overlay_geom.specs.declared.error.OverlayError.{OverlayError}
use Rattle.overlay_builder.specs.PathLists.{AddedPath, HoldsPaths, MayRefuseBuilder}
use Rattle.overlay_string.specs.OneShot.{shape_and_strings}
use Rattle.overlay_string.specs.StringBuilder.{StringBuilder}
use Rattle.overlay_string.specs.declared.clip_rule.ClipRule.{ClipRule}
use Rattle.polyover_text.specs.declared.clip_options.KeptParts.{KeptParts}
use Rattle.polyover_text.specs.Grammar.{GivenFigures}
use Rattle.polyover_engine.specs.Subjects.{subject_of}

-- which parts a clip with these options keeps
abbrev pub clip_rule_of : KeptParts → ClipRule
clip_rule_of o = record { invert = o.invert; boundary_included = o.boundary_included }

-- the contours of the subject, as those of a shape, and then the open paths, as strings over it
abbrev pub shape_and_lines : GivenFigures → List (AddedPath CountedEdge)
shape_and_lines fs = shape_and_strings (subject_of fs.contours) fs.lines

-- a builder for strings, which has not failed, holds just the paths
pub record HoldsJust (paths : List (AddedPath CountedEdge)) (b : StringBuilder ℕ) : Type 0 where
  pub holds : HoldsPaths paths b.edges
  pub ready : b.failed ≡ false

-- whatever paths such a builder held before, it holds these after them, or they may be refused so
abbrev pub AddsToHeld : {V : Type 0} → List (AddedPath CountedEdge) → StringBuilder ℕ → StringBuilder ℕ →
    Result V OverlayError → Type 0
AddsToHeld paths old new r = (before : List (AddedPath CountedEdge)) → HoldsJust before old
    → MatchResult r (λ _. HoldsJust (before ++ paths) new) (λ e. MayRefuseBuilder (before ++ paths) e)
