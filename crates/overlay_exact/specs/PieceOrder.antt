-- The pieces of one edge follow each other, and each plain point of the edge lies within one.
use Rattle.std.specs.Prelude.{◌⊎◌, ℕ, List}
use Rattle.overlay_geom.specs.Edges.{CountedEdge, ends_of}
use Rattle.overlay_geom.specs.Plane.{PlanePoint, SamePlace, in_plane}
use Rattle.overlay_plane.specs.EdgeLists.{IsForwardBy}
use Rattle.overlay_plane.specs.Rounds.{IsSmaller}
use Rattle.overlay_scaled.specs.Pieces.{IsPlaceOn, IsPiece, IsWithinPiece}
use Rattle.overlay_scaled.specs.PlainPoints.{IsPlain}
use Rattle.overlay_exact.specs.Along.{Met}
use Rattle.overlay_exact.specs.PlacesAlong.{AreMetIn}

-- p is smaller than q, or the same point
abbrev pub IsUpTo : PlanePoint → PlanePoint → Type 0
IsUpTo p q = IsSmaller p q ⊎ SamePlace p q

-- the pieces of an edge of a list that leads forward
pub record PiecesFollow (es : List CountedEdge) (e : CountedEdge) : Type 0 where
  -- of two pieces one ends before the other begins, or both lead from one place to another
  pub apart : (l m k n : PlanePoint) → IsPiece es e l m → IsPiece es e k n →
      (IsUpTo m k ⊎ IsUpTo n l) ⊎ (SamePlace l k × SamePlace m n)
  -- a piece begins no earlier than the edge, and ends no later
  pub inside : (l m : PlanePoint) → IsPiece es e l m → IsUpTo (in_plane e.a) l × IsUpTo m (in_plane e.b)
  -- each piece has a point between its ends
  pub some : (l m : PlanePoint) → IsPiece es e l m → (p : PlanePoint) × IsWithinPiece e l m p
  -- no plain point is a place
  pub plain : (p l : PlanePoint) → IsPlain es e p → IsPlaceOn es e l → IsSmaller p l ⊎ IsSmaller l p

-- ---- laws

abbrev pub PiecesFollowEachOther : Type 0
PiecesFollowEachOther = (es : List CountedEdge) (e : CountedEdge) → IsForwardBy ends_of es → PiecesFollow es e

-- p lies within a piece of e
abbrev pub IsInPiece : List CountedEdge → CountedEdge → PlanePoint → Type 0
IsInPiece es e p = (l : PlanePoint) × (m : PlanePoint) × IsPiece es e l m × IsWithinPiece e l m p

-- so does each plain point
abbrev pub PlainPointsLieInPieces : Type 0
PlainPointsLieInPieces = (es : List CountedEdge) (i : ℕ) (e : CountedEdge) (ms : List Met) → AreMetIn es i e ms →
    (p : PlanePoint) → IsPlain es e p → IsInPiece es e p
