-- What contours wind round, as they were given, and points far from them.
use Rattle.std.specs.Prelude.{◌≡◌, ℕ, Bool, ℤ, pos, List, All}
use Rattle.overlay_geom.specs.Edges.{CountedEdge, subj_of, clip_of, winding_by}
use Rattle.overlay_geom.specs.Plane.{PlanePoint, steps_of, total, winding}
use Rattle.overlay_geom.specs.declared.options.ShapeType.{ShapeType}
use Rattle.overlay_geom.specs.declared.options.ShapeType.TheVariants.{Subject, Clip}
use Rattle.overlay_plane.specs.FarPoints.{AreWithinHalves, IsFarFrom}
use Rattle.overlay_plane.specs.Snaps.{IsOnStep}
use Rattle.overlay_builder.specs.GivenPaths.{GivenPath, added_paths}
use Rattle.overlay_builder.specs.PathLists.{HoldsPaths}

-- the winding of a path of the second side counts for the first side
abbrev pub counted_for : (side given : ShapeType) → ℤ → ℤ
counted_for Subject Subject z = z
counted_for Subject Clip z = pos 0
counted_for Clip Subject z = pos 0
counted_for Clip Clip z = z

-- how often the closed paths of a side wind round p
abbrev pub winding_of_paths : ShapeType → List GivenPath → PlanePoint → ℤ
winding_of_paths side paths p =
    total (λ path. counted_for side path.shape_type (winding (steps_of path.points) p)) paths

-- each point of the steps of a closed path is more than k/2 away from p, in x or in y
abbrev pub IsFarFromPath : ℕ → PlanePoint → GivenPath → Type 0
IsFarFromPath k p path = All (λ s. (q : PlanePoint) → IsOnStep s q → ¬ (AreWithinHalves k q p)) (steps_of path.points)

-- so it is with all paths
abbrev pub IsFarFromPaths : ℕ → List GivenPath → PlanePoint → Type 0
IsFarFromPaths k paths p = All (IsFarFromPath k p) paths

-- ---- laws

-- a builder that holds the paths alone winds as they do
pub record HeldPathsWind (paths : List GivenPath) (es : List CountedEdge) (p : PlanePoint) : Type 0 where
  pub subj : winding_by subj_of es p ≡ winding_of_paths Subject paths p
  pub clip : winding_by clip_of es p ≡ winding_of_paths Clip paths p

abbrev pub ContentsWindAsPaths : Type 0
ContentsWindAsPaths = (keep : Bool) (paths : List GivenPath) (es : List CountedEdge) →
    HoldsPaths (added_paths keep paths) es → (p : PlanePoint) → HeldPathsWind paths es p

-- a point far from the paths is as far from its edges
abbrev pub FarFromPathsIsFar : Type 0
FarFromPathsIsFar = (keep : Bool) (paths : List GivenPath) (es : List CountedEdge) →
    HoldsPaths (added_paths keep paths) es → (k : ℕ) (p : PlanePoint) → IsFarFromPaths k paths p → IsFarFrom k es p
