-- How an overlay of arrays ends that tells which shape lies in which hole.
use Rattle.std.specs.Prelude.{ℕ, ℤ, List}
use Rattle.std.specs.Int.{Width}
use Rattle.overlay_extract.specs.Results.{asked}
use Rattle.overlay_geom.specs.Plane.{Point}
use Rattle.overlay_plane.specs.Islands.{ChildLink}
use Rattle.polyover_calls.specs.Asked.{rule_of, fill_of, solver_of, options_of, keeps_given, AreKnown}
use Rattle.polyover_calls.specs.Given.{Contours, paths_given, AreGiven}
use Rattle.polyover_calls.specs.Kept.{IsHierarchyAsAdded}
use Rattle.polyover_calls.specs.Linked.{LinkedRoom, EndsWithLinked}
use Rattle.polyover_calls.specs.Overlays.{IsOverlayRefused}
use Rattle.polyover_calls.specs.declared.numbers.OptionNumbers.{OptionNumbers}
use Rattle.polyover_calls.specs.declared.status.Status.{Status}

-- all that is given stands for something, and the shapes and links are those that the numbers ask for, of the contours
-- of both
pub record IsLinkedOverlay {I U : Type 0} (whole : I → ℤ) (limit : ℕ) (width : Width) (natural : U → ℕ) (rule fill : ℕ)
    (options : OptionNumbers U) (subject clip : Contours I) (shapes : List (List (List Point)))
    (links : List ChildLink) : Type 0 where
  pub known : AreKnown rule fill options
  pub subject_given : AreGiven whole limit subject
  pub clip_given : AreGiven whole limit clip
  pub is_hierarchy : IsHierarchyAsAdded (keeps_given options) (solver_of options.solver)
      (asked width natural (fill_of fill) (rule_of rule) (options_of options)) (paths_given whole subject clip) shapes
      links

-- how it ends: it is refused as an overlay is
abbrev pub HierarchyEnds : {I U : Type 0} → (I → ℤ) → ℕ → Width → (U → ℕ) → ℕ → ℕ → OptionNumbers U → Contours I →
    Contours I → LinkedRoom I → LinkedRoom I → Status → Type 0
HierarchyEnds whole limit width natural rule fill options subject clip =
    EndsWithLinked (IsLinkedOverlay whole limit width natural rule fill options subject clip)
    (IsOverlayRefused whole limit rule fill options subject clip) whole
