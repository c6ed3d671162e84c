-- How the simplification of arrays ends.
use Rattle.std.specs.Prelude.{ℕ, ℤ, List}
use Rattle.std.specs.Int.{Width}
use Rattle.overlay_geom.specs.declared.options.ShapeType.TheVariants.{Subject}
use Rattle.overlay_geom.specs.Plane.{Point}
use Rattle.overlay_builder.specs.GivenPaths.{paths_for}
use Rattle.overlay_extract.specs.Results.{asked}
use Rattle.i_overlay.specs.Alone.{MayRefuseAlone}
use Rattle.i_overlay.specs.Simplified.{IsSimplifiedAlone}
use Rattle.polyover_calls.specs.Asked.{rule_of, fill_of, solver_of, options_of, keeps_given, AreKnown, IsUnknown}
use Rattle.polyover_calls.specs.Given.{Contours, paths_of, AreGiven, IsFaulty}
use Rattle.polyover_calls.specs.Statuses.{IsRefused}
use Rattle.polyover_calls.specs.Written.{Room, EndsWithShapes}
use Rattle.polyover_calls.specs.declared.numbers.OptionNumbers.{OptionNumbers}
use Rattle.polyover_calls.specs.declared.status.Status.{Status}

-- all that is given stands for something, and the shapes are those that the contours are simplified to, as the numbers
-- ask; the rule Subject has the number 0
pub record IsSimplification {I U : Type 0} (whole : I → ℤ) (limit : ℕ) (width : Width) (natural : U → ℕ) (fill : ℕ)
    (options : OptionNumbers U) (given : Contours I) (shapes : List (List (List Point))) : Type 0 where
  pub known : AreKnown 0 fill options
  pub are_given : AreGiven whole limit given
  pub simplified : IsSimplifiedAlone (solver_of options.solver)
      (asked width natural (fill_of fill) (rule_of 0) (options_of options)) (keeps_given options)
      (paths_of whole given) shapes

-- a simplification is refused so: a number stands for nothing; else the contours have a fault; else the query is
-- refused
abbrev pub IsSimplifyingRefused : {I U : Type 0} → (I → ℤ) → ℕ → ℕ → OptionNumbers U → Contours I → Status → Type 0
IsSimplifyingRefused whole limit fill options given = IsRefused (IsUnknown 0 fill options)
    (λ f. AreKnown 0 fill options × IsFaulty whole limit given f)
    (λ e. AreKnown 0 fill options × (AreGiven whole limit given
    × MayRefuseAlone (keeps_given options) (solver_of options.solver) (paths_for Subject (paths_of whole given)) e))

-- how it ends
abbrev pub SimplifyingEnds : {I U : Type 0} → (I → ℤ) → ℕ → Width → (U → ℕ) → ℕ → OptionNumbers U → Contours I →
    Room I → Room I → Status → Type 0
SimplifyingEnds whole limit width natural fill options given =
    EndsWithShapes (IsSimplification whole limit width natural fill options given)
    (IsSimplifyingRefused whole limit fill options given) whole
