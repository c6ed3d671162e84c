-- How a shape is made of contours in arrays, as they are given.
use Rattle.std.specs.Prelude.{◌≡◌, ◌≤◌, ◌<◌, ◌⊎◌, ℕ, ℤ, false}
use Rattle.overlay_builder.specs.GivenPaths.{added_paths, paths_for}
use Rattle.overlay_builder.specs.PathLists.{MayRefuseBuilder}
use Rattle.overlay_geom.specs.declared.options.ShapeType.TheVariants.{Subject}
use Rattle.overlay_located.specs.GivenShapes.{IsShapeOf}
use Rattle.polyover_calls.specs.Asked.{fill_of}
use Rattle.polyover_calls.specs.Given.{Contours, paths_of, AreGiven, IsFaulty}
use Rattle.polyover_calls.specs.Statuses.{IsRefused, code_of}
use Rattle.polyover_calls.specs.declared.status.Status.{Status}
use Rattle.polyover_calls.specs.declared.status.Status.TheVariants.{BadFill, Done}
use Rattle.polyover_located.specs.Held.{ExactParts, CanBeAsked, no_parts, shape_of}

-- the number of the fill rule is known, the contours are given, and the shape is that of the contours, as they are,
-- under the fill rule
pub record AreExactPartsOf {I : Type 0} (whole : I → ℤ) (limit fill : ℕ) (given : Contours I) (p : ExactParts) : Type 0
  where
    pub known : fill < 4
    pub are_given : AreGiven whole limit given
    pub shape : IsShapeOf (fill_of fill) (paths_for Subject (paths_of whole given)) (shape_of p)
    pub can_be_asked : CanBeAsked limit p

-- the number of the fill rule stands for nothing
abbrev pub IsUnknownFill : ℕ → Status → Type 0
IsUnknownFill fill s = (s ≡ BadFill) × (4 ≤ fill)

-- it is refused so: the fill rule is unknown; else the contours have a fault; else a builder may refuse them
abbrev pub IsExactPreparingRefused : {I : Type 0} → (I → ℤ) → ℕ → ℕ → Contours I → Status → Type 0
IsExactPreparingRefused whole limit fill given = IsRefused (IsUnknownFill fill)
    (λ f. (fill < 4) × IsFaulty whole limit given f)
    (λ e. (fill < 4) × (AreGiven whole limit given
    × MayRefuseBuilder (added_paths false (paths_for Subject (paths_of whole given))) e))

-- how it ends: with parts of the shape, or it is refused, and there are none
abbrev pub ExactPreparingEnds : {I : Type 0} → (I → ℤ) → ℕ → ℕ → Contours I → ExactParts → Status → Type 0
ExactPreparingEnds whole limit fill given p s = ((s ≡ Done) × AreExactPartsOf whole limit fill given p)
    ⊎ ((p ≡ no_parts) × IsExactPreparingRefused whole limit fill given s)

-- what C is given: parts of a shape that can be asked, and the code of the status with which preparing ends so
pub record IsExactlyPreparedSo {I : Type 0} (whole : I → ℤ) (limit fill : ℕ) (given : Contours I) (p : ExactParts)
    (code : ℕ) : Type 0 where
  pub status : Status
  pub ends : ExactPreparingEnds whole limit fill given p status
  pub told : code ≡ code_of status
  pub can_be_asked : CanBeAsked limit p
