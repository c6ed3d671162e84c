-- How two shapes meet, told by the plain points and the pieces of a list of edges that need not be an arrangement.
use Rattle.std.specs.Prelude.{◌≡◌, ◌⊎◌, ◌↔◌, Bool, true, false, cond, not, ◌&&◌, ◌||◌, ℤ, pos, List}
use Rattle.overlay_geom.specs.Edges.{CountedEdge, ends_of, subj_of, clip_of}
use Rattle.overlay_geom.specs.Merged.{IsMerged}
use Rattle.overlay_geom.specs.Plane.{PlanePoint, SamePlace}
use Rattle.overlay_plane.specs.Balance.{HasBalancedCounts}
use Rattle.overlay_plane.specs.EdgeLists.{IsForwardBy}
use Rattle.overlay_plane.specs.Predicates.{fills_at, Intersects, Touches, PointIntersects}
use Rattle.overlay_scaled.specs.ExactArrangements.{IsExactArrangement}
use Rattle.overlay_scaled.specs.Pieces.{IsPiece, IsWithinPiece}
use Rattle.overlay_scaled.specs.PlainPoints.{SomePlain}
use Rattle.overlay_scaled.specs.Through.{winding_over}

-- ---- the sides of the edges through a plain point; `fills_at` tells the side below

-- the shape fills the side above
abbrev pub fills_over : (ℤ → Bool) → List CountedEdge → (CountedEdge → ℤ) → PlanePoint → Bool
fills_over filled es shape p = filled (winding_over shape es p)

-- a test of four fillings, subject above and below, clip above and below, passes at p
abbrev pub passes_at : (Bool → Bool → Bool → Bool → Bool) → (ℤ → Bool) → List CountedEdge → PlanePoint → Bool
passes_at test filled es p = test (fills_over filled es subj_of p) (fills_at filled es subj_of p)
    (fills_over filled es clip_of p) (fills_at filled es clip_of p)

-- the subject fills a side, and the clip does
abbrev pub fill_both : Bool → Bool → Bool → Bool → Bool
fill_both sa sb ca cb = (sa || sb) && (ca || cb)

-- both fill one side
abbrev pub fill_one : Bool → Bool → Bool → Bool → Bool
fill_one sa sb ca cb = (sa && ca) || (sb && cb)

-- the subject alone fills exactly one side, and the clip alone does
abbrev pub border_subject : Bool → Bool → Bool → Bool → Bool
border_subject sa sb ca cb = cond sa (not sb) sb && not (ca || cb)

abbrev pub border_clip : Bool → Bool → Bool → Bool → Bool
border_clip sa sb ca cb = cond ca (not cb) cb && not (sa || sb)

-- a piece that ends at this place passes the test
pub record PassesToward (test : Bool → Bool → Bool → Bool → Bool) (filled : ℤ → Bool) (es : List CountedEdge)
    (place : PlanePoint) : Type 0 where
  pub edge : CountedEdge
  pub from : PlanePoint
  pub to : PlanePoint
  pub inside : PlanePoint
  pub piece : IsPiece es edge from to
  pub within : IsWithinPiece edge from to inside
  pub at : SamePlace place from ⊎ SamePlace place to
  pub passes : passes_at test filled es inside ≡ true

-- a shared end: a piece ends there where the subject alone fills exactly one side, and one where the clip alone does
abbrev pub HasSharedPlace : (ℤ → Bool) → List CountedEdge → Type 0
HasSharedPlace filled es = (place : PlanePoint) × PassesToward border_subject filled es place
    × PassesToward border_clip filled es place

-- ---- laws

-- how the shapes of the arrangement meet, told by plain points and pieces of the list
pub record PlainPointsTellContacts (filled : ℤ → Bool) (es new : List CountedEdge) : Type 0 where
  pub intersects : Intersects filled new ↔ (SomePlain (passes_at fill_both filled es) es ⊎ HasSharedPlace filled es)
  pub touches : Touches filled new ↔ ((SomePlain (passes_at fill_both filled es) es ⊎ HasSharedPlace filled es)
      × (¬ (SomePlain (passes_at fill_one filled es) es)))
  pub point_intersects : PointIntersects filled new ↔
      (HasSharedPlace filled es × (¬ (SomePlain (passes_at fill_both filled es) es)))

-- this holds of each exact arrangement of a merged list with balanced counts, for a test that fails for winding 0
abbrev pub ExactContacts : Type 0
ExactContacts = (filled : ℤ → Bool) (n : ℤ) (content es new : List CountedEdge) → IsMerged content es →
    IsForwardBy ends_of es → HasBalancedCounts es → filled (pos 0) ≡ false → IsExactArrangement n es new →
    PlainPointsTellContacts filled es new
