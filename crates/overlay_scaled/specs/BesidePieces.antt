-- The windings beside an edge of a list, as a walk along the edge finds them: from the windings at a place of it, by
-- the edges through that place.
use Rattle.std.specs.Prelude.{◌≡◌, Bool, true, cond, not, ◌&&◌, ℤ, pos, negsuc, ◌+ℤ◌, ◌-ℤ◌, ◌*ℤ◌, int_lt, List}
use Rattle.std.specs.Ordering.{int_eq}
use Rattle.overlay_geom.specs.Edges.{CountedEdge, ends_of, winding_by}
use Rattle.overlay_geom.specs.Plane.{Point, PlanePoint, Edge, side, cross_at, point_lt, total}
use Rattle.overlay_plane.specs.CutPoints.{are_along}
use Rattle.overlay_plane.specs.EdgeLists.{IsForwardBy, IsBalanced}
use Rattle.overlay_plane.specs.Regions.{one_if}
use Rattle.overlay_scaled.specs.Pieces.{IsPiece, IsWithinPiece}
use Rattle.overlay_scaled.specs.Through.{is_on, total_through, winding_over}

-- v lies strictly to the right of the line from e.a to e.b
abbrev pub is_right_of : Edge → Point → Bool
is_right_of e v = int_lt (cross_at e.a e.b v) (pos 0)

-- how f leads across the line of e before the point p of that line: 1 to the right, -1 from the right, else 0. Where it
-- leads across at p itself, only the way from the right counts
abbrev pub crossing_before : Edge → PlanePoint → Edge → ℤ
crossing_before e p f = cond (is_right_of e f.a)
    (cond (is_right_of e f.b) (pos 0) (cond (int_lt (pos 0) (side f p)) (pos 0) (negsuc 0)))
    (cond (is_right_of e f.b) (one_if (int_lt (pos 0) (side f p))) (pos 0))

-- the sum of the counts of the edges through m that lead to the right of e, and of those that come from there
abbrev pub total_to_right : (CountedEdge → ℤ) → List CountedEdge → CountedEdge → PlanePoint → ℤ
total_to_right count es e m = total (λ f. cond (is_on (ends_of f) m && is_right_of (ends_of e) f.b) (count f) (pos 0))
    es

abbrev pub total_from_right : (CountedEdge → ℤ) → List CountedEdge → CountedEdge → PlanePoint → ℤ
total_from_right count es e m = total (λ f. cond (is_on (ends_of f) m && is_right_of (ends_of e) f.a) (count f) (pos 0))
    es

-- the whole point v is at m
abbrev pub is_at : Point → PlanePoint → Bool
is_at v m = int_eq m.x (v.x *ℤ m.d) && int_eq m.y (v.y *ℤ m.d)

-- the sum of the counts of the edges along e through m that lead on from there, and of those that come up to there
abbrev pub total_leading_on : (CountedEdge → ℤ) → List CountedEdge → CountedEdge → PlanePoint → ℤ
total_leading_on count es e m = total (λ f. cond (is_on (ends_of f) m && are_along (ends_of e) (ends_of f) && not
    (is_at f.b m)) (count f) (pos 0)) es

abbrev pub total_coming_up : (CountedEdge → ℤ) → List CountedEdge → CountedEdge → PlanePoint → ℤ
total_coming_up count es e m = total (λ f. cond (is_on (ends_of f) m && are_along (ends_of e) (ends_of f) && not
    (is_at f.a m)) (count f) (pos 0)) es

-- ---- laws

-- in a balanced list the winding at a point of a line is told by the edges across the line before the point
abbrev pub WindingAlongALine : Type 0
WindingAlongALine = (count : CountedEdge → ℤ) (es : List CountedEdge) → IsForwardBy ends_of es →
    IsBalanced ends_of count es → (line : Edge) → point_lt line.a line.b ≡ true → (p : PlanePoint) →
    side line p ≡ pos 0 → winding_by count es p ≡ total (λ f. count f *ℤ crossing_before line p (ends_of f)) es

-- the winding below a piece, at each point p of it, is that at its start l plus the counts of the edges through l to
-- the right of e. It is that at its end m plus the counts of the edges through m from the right of e
pub record WindsFromEnds (count : CountedEdge → ℤ) (es : List CountedEdge) (e : CountedEdge)
    (l m p : PlanePoint) : Type 0 where
  pub from_start : winding_by count es p ≡ winding_by count es l +ℤ total_to_right count es e l
  pub from_end : winding_by count es p ≡ winding_by count es m +ℤ total_from_right count es e m

abbrev pub WindingsBesidePieces : Type 0
WindingsBesidePieces = (count : CountedEdge → ℤ) (es : List CountedEdge) → IsForwardBy ends_of es →
    IsBalanced ends_of count es → (e : CountedEdge) (l m p : PlanePoint) → IsPiece es e l m → IsWithinPiece e l m p →
    WindsFromEnds count es e l m p

-- the edges through a point of a piece are those along e that lead on from its start, or come up to its end
pub record CountsFromEnds (count : CountedEdge → ℤ) (es : List CountedEdge) (e : CountedEdge)
    (l m p : PlanePoint) : Type 0 where
  pub from_start : total_through count es p ≡ total_leading_on count es e l
  pub from_end : total_through count es p ≡ total_coming_up count es e m

abbrev pub CountsAlongPieces : Type 0
CountsAlongPieces = (count : CountedEdge → ℤ) (es : List CountedEdge) → IsForwardBy ends_of es → (e : CountedEdge)
    (l m p : PlanePoint) → IsPiece es e l m → IsWithinPiece e l m p → CountsFromEnds count es e l m p

-- ---- past a place

-- the counts of the edges through m to the right of e, less the counts of those from there. Edges along e add nothing
abbrev pub rise_past : (CountedEdge → ℤ) → List CountedEdge → CountedEdge → PlanePoint → ℤ
rise_past count es e m = total (λ f. cond (is_on (ends_of f) m)
    (count f *ℤ (one_if (is_right_of (ends_of e) f.b) -ℤ one_if (is_right_of (ends_of e) f.a))) (pos 0)) es

-- the counts of the edges along e that start at m, less the counts of those that end there
abbrev pub rise_along : (CountedEdge → ℤ) → List CountedEdge → CountedEdge → PlanePoint → ℤ
rise_along count es e m = total (λ f. cond (are_along (ends_of e) (ends_of f))
    (count f *ℤ (one_if (is_at f.a m) -ℤ one_if (is_at f.b m))) (pos 0)) es

-- so the windings below and above the edges rise from p to s
pub record RisePast (count : CountedEdge → ℤ) (es : List CountedEdge) (e : CountedEdge)
    (m p s : PlanePoint) : Type 0 where
  pub below : winding_by count es s ≡ winding_by count es p +ℤ rise_past count es e m
  pub above : winding_over count es s ≡ winding_over count es p +ℤ (rise_past count es e m +ℤ rise_along count es e m)

-- from a piece to the next, which begins where it ends
abbrev pub WindingsPastAPlace : Type 0
WindingsPastAPlace = (count : CountedEdge → ℤ) (es : List CountedEdge) → IsForwardBy ends_of es →
    IsBalanced ends_of count es → (e : CountedEdge) (l m k p s : PlanePoint) → IsPiece es e l m → IsPiece es e m k →
    IsWithinPiece e l m p → IsWithinPiece e m k s → RisePast count es e m p s
