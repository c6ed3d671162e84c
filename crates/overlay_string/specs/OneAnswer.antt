-- What strings are clipped to, and what a shape is sliced into along them, is determined by their points, by snap
-- rounding.
use Rattle.std.specs.Prelude.{◌≡◌, List}
use Rattle.std.specs.Int.{Width}
use Rattle.overlay_geom.specs.Plane.{Point}
use Rattle.overlay_geom.specs.declared.error.OverlayError.{OverlayError}
use Rattle.overlay_geom.specs.declared.error.OverlayError.TheVariants.{Memory}
use Rattle.overlay_geom.specs.declared.solver.Solver.TheVariants.{Snapping}
use Rattle.overlay_geom.specs.declared.fill_rule.FillRule.{FillRule}
use Rattle.overlay_string.specs.OneShot.{AreClippedOfPaths, MayRefusePaths, shape_and_strings}
use Rattle.overlay_string.specs.StringSlices.{AreSlicedOfPaths}
use Rattle.overlay_string.specs.declared.clip_rule.ClipRule.{ClipRule}

-- two lists of paths that a clip leaves of the same strings over the same shape are equal
abbrev pub OneClipOfStrings : Type 0
OneClipOfStrings = (fill : FillRule) (rule : ClipRule) (shape strings : List (List Point))
    (first second : List (List Point)) → AreClippedOfPaths Snapping fill rule (shape_and_strings shape strings) first →
    AreClippedOfPaths Snapping fill rule (shape_and_strings shape strings) second → first ≡ second

-- so are two lists of the shapes into which the shape is sliced along the strings
abbrev pub OneSlicingAlongStrings : Type 0
OneSlicingAlongStrings = (width : Width) (fill : FillRule) (shape strings : List (List Point))
    (first second : List (List (List Point))) →
    AreSlicedOfPaths Snapping width fill (shape_and_strings shape strings) first →
    AreSlicedOfPaths Snapping width fill (shape_and_strings shape strings) second → first ≡ second

-- memory alone may refuse the strings over the shape, by snap rounding
abbrev pub MemoryAloneRefusesStrings : (shape strings : List (List Point)) → Type 0
MemoryAloneRefusesStrings shape strings = (e : OverlayError) →
    MayRefusePaths Snapping (shape_and_strings shape strings) e → e ≡ Memory

-- so it is with those to which there is an answer
pub record AnsweredStringsAreRefusedByMemoryAlone : Type 0 where
  pub clips : (fill : FillRule) (rule : ClipRule) (shape strings result : List (List Point)) →
      AreClippedOfPaths Snapping fill rule (shape_and_strings shape strings) result →
      MemoryAloneRefusesStrings shape strings
  pub slices : (width : Width) (fill : FillRule) (shape strings : List (List Point))
      (result : List (List (List Point))) →
      AreSlicedOfPaths Snapping width fill (shape_and_strings shape strings) result →
      MemoryAloneRefusesStrings shape strings
