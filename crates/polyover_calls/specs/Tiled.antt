-- How the tiling of arrays ends.
use Rattle.std.specs.Prelude.{◌≡◌, ◌<◌, ◌≤◌, ◌⊎◌, ℕ, ℤ, List}
use Rattle.std.specs.Int.{Width}
use Rattle.overlay_geom.specs.Plane.{Point}
use Rattle.overlay_tiles.specs.Grids.{FitsGrid, IsGridStep}
use Rattle.overlay_tiles.specs.Spans.{points_of_paths}
use Rattle.overlay_tiles.specs.Tiles.{AreTiles, MayRefuseTiles}
use Rattle.polyover_calls.specs.Asked.{fill_of, solver_of}
use Rattle.polyover_calls.specs.Given.{Contours, paths_of, AreGiven, IsFaulty}
use Rattle.polyover_calls.specs.Held.{HeldArrays, EndsHeld, shape_arrays}
use Rattle.polyover_calls.specs.Statuses.{IsRefused}
use Rattle.polyover_calls.specs.Written.{IsFlat}
use Rattle.polyover_calls.specs.declared.status.Status.{Status}
use Rattle.polyover_calls.specs.declared.status.Status.TheVariants.{BadFill, BadOption}

-- the solver is known, cells can be as wide and as high, and where the contours have no fault, the grid may be laid
-- across their points: it has at most 1,000 lines in each direction
pub record AreTileChoices {I : Type 0} (whole : I → ℤ) (limit s : ℕ) (wide high : ℤ) (subject : Contours I) : Type 0
  where
    pub solver : s < 2
    pub width_fits : IsGridStep limit wide
    pub height_fits : IsGridStep limit high
    pub few_lines : AreGiven whole limit subject →
        FitsGrid limit wide high (points_of_paths (paths_of whole subject))

-- the numbers are known
abbrev pub AreTileNumbers : {I : Type 0} → (I → ℤ) → ℕ → ℕ → ℕ → ℤ → ℤ → Contours I → Type 0
AreTileNumbers whole limit fill solver wide high subject =
    (fill < 4) × AreTileChoices whole limit solver wide high subject

-- the numbers are known, the subject is given, and the shapes are the tiles into which the lines of the grid slice it,
-- split by the solver
pub record AreTilesOfContours {I : Type 0} (whole : I → ℤ) (limit : ℕ) (width : Width) (fill solver : ℕ)
    (wide high : ℤ) (subject : Contours I) (shapes : List (List (List Point))) : Type 0 where
  pub known : AreTileNumbers whole limit fill solver wide high subject
  pub subject_given : AreGiven whole limit subject
  pub tiles : AreTiles (solver_of solver) width (fill_of fill) wide high (paths_of whole subject) shapes

-- the first number that stands for nothing is told by the status, that of the fill rule before the others
abbrev pub IsUnknownTiling : {I : Type 0} → (I → ℤ) → ℕ → ℕ → ℕ → ℤ → ℤ → Contours I → Status → Type 0
IsUnknownTiling whole limit fill solver wide high subject s = ((s ≡ BadFill) × (4 ≤ fill))
    ⊎ ((s ≡ BadOption) × ((fill < 4) × ¬ (AreTileChoices whole limit solver wide high subject)))

-- a tiling is refused so: a number stands for nothing, the fill rule's first; else the contours have a fault; else the
-- query is refused
abbrev pub IsTilingRefused : {I : Type 0} → (I → ℤ) → ℕ → ℕ → ℕ → ℤ → ℤ → Contours I → Status → Type 0
IsTilingRefused whole limit fill solver wide high subject =
    IsRefused (IsUnknownTiling whole limit fill solver wide high subject)
    (λ f. AreTileNumbers whole limit fill solver wide high subject × IsFaulty whole limit subject f)
    (λ e. AreTileNumbers whole limit fill solver wide high subject × (AreGiven whole limit subject
    × MayRefuseTiles (solver_of solver) wide high (paths_of whole subject) e))

-- how it ends, with an answer that is handed out
abbrev pub TilesAreHeld : {I : Type 0} → (I → ℤ) → ℕ → Width → ℕ → ℕ → ℤ → ℤ → Contours I → HeldArrays I → Status →
    Type 0
TilesAreHeld whole limit width fill solver wide high subject =
    EndsHeld (IsFlat (AreTilesOfContours whole limit width fill solver wide high subject) whole) shape_arrays
    (IsTilingRefused whole limit fill solver wide high subject)
