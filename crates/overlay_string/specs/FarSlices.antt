-- What slices wind round at points far from the contours of the shape, as they were given, and from the strings.
use Rattle.std.specs.Prelude.{◌≡◌, ℕ, cond, pos, List, All}
use Rattle.overlay_geom.specs.Edges.{CountedEdge, subj_of, winding_by}
use Rattle.overlay_geom.specs.Plane.{Point, PlanePoint, Step, path_steps, winding}
use Rattle.overlay_geom.specs.Rules.{is_filled}
use Rattle.overlay_geom.specs.declared.fill_rule.FillRule.{FillRule}
use Rattle.overlay_geom.specs.declared.options.ContourDirection.{ContourDirection}
use Rattle.overlay_geom.specs.declared.options.ShapeType.TheVariants.{Subject}
use Rattle.overlay_plane.specs.ContourWindings.{once_round}
use Rattle.overlay_plane.specs.FarPoints.{AreWithinHalves, IsFarFrom}
use Rattle.overlay_plane.specs.Snaps.{IsOnStep}
use Rattle.overlay_walk.specs.Steps.{filled_hand}
use Rattle.overlay_builder.specs.GivenPaths.{paths_for}
use Rattle.overlay_builder.specs.PathWindings.{winding_of_paths, IsFarFromPaths}

-- each point of the steps of the open string is more than k/2 away from p, in x or in y
abbrev pub IsFarFromString : ℕ → PlanePoint → List Point → Type 0
IsFarFromString k p ps = All (λ s. (q : PlanePoint) → IsOnStep s q → ¬ (AreWithinHalves k q p)) (path_steps ps)

-- so it is with all strings
abbrev pub AreStringsFar : ℕ → List (List Point) → PlanePoint → Type 0
AreStringsFar k strings p = All (IsFarFromString k p) strings

-- round each point more than k/2 away from the contours of the shape and from the strings, in x or in y, the steps wind
-- once where the fill rule holds of the contours' winding, and zero times elsewhere
abbrev pub WindsRoundFarShape : ℕ → FillRule → (shape strings : List (List Point)) → List Step → Type 0
WindsRoundFarShape k fill shape strings steps = (p : PlanePoint) → IsFarFromPaths k (paths_for Subject shape) p →
    AreStringsFar k strings p →
    winding steps p ≡ cond (is_filled fill (winding_of_paths Subject (paths_for Subject shape) p)) (pos 1) (pos 0)

-- round each point more than k/2 away from the given edges, in x or in y, the steps wind once, in the output direction,
-- where the fill rule holds of the subject's winding by these edges, and zero times elsewhere
abbrev pub WindsRoundFarFilled : ℕ → FillRule → ContourDirection → List CountedEdge → List Step → Type 0
WindsRoundFarFilled k fill direction given steps = (p : PlanePoint) → IsFarFrom k given p →
    winding steps p ≡ cond (is_filled fill (winding_by subj_of given p)) (once_round (filled_hand direction)) (pos 0)
