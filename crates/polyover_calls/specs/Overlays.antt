-- How an overlay of arrays ends.
use Rattle.std.specs.Prelude.{◌≡◌, false, ℕ, ℤ, List}
use Rattle.std.specs.Int.{Width}
use Rattle.overlay_geom.specs.declared.fill_rule.FillRule.{FillRule}
use Rattle.overlay_geom.specs.declared.overlay_rule.OverlayRule.{OverlayRule}
use Rattle.overlay_geom.specs.Plane.{Point}
use Rattle.overlay_builder.specs.GivenPaths.{added_paths}
use Rattle.overlay_builder.specs.PathLists.{HoldsPaths}
use Rattle.overlay_extract.specs.Results.{asked}
use Rattle.i_overlay.specs.Alone.{MayRefuseAlone}
use Rattle.i_overlay.specs.Builder.{Builder}
use Rattle.polyover_calls.specs.Asked.{rule_of, fill_of, solver_of, options_of, keeps_given, AreKnown, IsUnknown}
use Rattle.polyover_calls.specs.Given.{Contours, paths_given, AreGiven}
use Rattle.polyover_calls.specs.Kept.{IsResultAsAdded}
use Rattle.polyover_calls.specs.Refusals.{AreBothRefused}
use Rattle.polyover_calls.specs.Written.{Room, EndsWithShapes}
use Rattle.polyover_calls.specs.declared.numbers.OptionNumbers.{OptionNumbers}
use Rattle.polyover_calls.specs.declared.status.Status.{Status}

-- all that is given stands for something; the rules and the settings of the builder, which has not failed, are those
-- that the numbers ask for; and it holds the contours of both
pub record IsAskedOverlay {I U : Type 0} (whole : I → ℤ) (limit rule fill : ℕ) (options : OptionNumbers U)
    (subject clip : Contours I) (overlay_rule : OverlayRule) (fill_rule : FillRule) (b : Builder U) : Type 0 where
  pub known : AreKnown rule fill options
  pub subject_given : AreGiven whole limit subject
  pub clip_given : AreGiven whole limit clip
  pub rule_asked : overlay_rule ≡ rule_of rule
  pub fill_asked : fill_rule ≡ fill_of fill
  pub options_asked : b.options ≡ options_of options
  pub solver_asked : b.solver ≡ solver_of options.solver
  pub ready : b.failed ≡ false
  pub holds : HoldsPaths (added_paths (keeps_given options) (paths_given whole subject clip)) b.edges

-- all that is given stands for something, and the shapes are the result that the numbers ask for, of the contours of
-- both, split by the solver that they ask for
pub record IsOverlay {I U : Type 0} (whole : I → ℤ) (limit : ℕ) (width : Width) (natural : U → ℕ) (rule fill : ℕ)
    (options : OptionNumbers U) (subject clip : Contours I) (shapes : List (List (List Point))) : Type 0 where
  pub known : AreKnown rule fill options
  pub subject_given : AreGiven whole limit subject
  pub clip_given : AreGiven whole limit clip
  pub is_result : IsResultAsAdded (keeps_given options) (solver_of options.solver)
      (asked width natural (fill_of fill) (rule_of rule) (options_of options)) (paths_given whole subject clip) shapes

-- an overlay is refused so: a number stands for nothing; else the contours have a fault, those of the subject first;
-- else the query is refused
abbrev pub IsOverlayRefused : {I U : Type 0} → (I → ℤ) → ℕ → ℕ → ℕ → OptionNumbers U → Contours I → Contours I →
    Status → Type 0
IsOverlayRefused whole limit rule fill options subject clip = AreBothRefused whole limit
    (IsUnknown rule fill options) (AreKnown rule fill options) subject clip
    (MayRefuseAlone (keeps_given options) (solver_of options.solver) (paths_given whole subject clip))

-- how it ends
abbrev pub OverlayEnds : {I U : Type 0} → (I → ℤ) → ℕ → Width → (U → ℕ) → ℕ → ℕ → OptionNumbers U → Contours I →
    Contours I → Room I → Room I → Status → Type 0
OverlayEnds whole limit width natural rule fill options subject clip =
    EndsWithShapes (IsOverlay whole limit width natural rule fill options subject clip)
    (IsOverlayRefused whole limit rule fill options subject clip) whole
