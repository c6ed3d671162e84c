-- The pieces of an edge of a list: from each of its places to the next. Its places are its ends, and the points where
-- different edges meet it.
use Rattle.std.specs.Prelude.{◌≡◌, ◌⊎◌, List, Contains}
use Rattle.overlay_geom.specs.Edges.{CountedEdge, ends_of, subj_of, clip_of, winding_by}
use Rattle.overlay_geom.specs.Merged.{IsMerged}
use Rattle.overlay_geom.specs.Plane.{PlanePoint, IsOn, IsEnd}
use Rattle.overlay_plane.specs.Balance.{HasBalancedCounts}
use Rattle.overlay_plane.specs.EdgeLists.{IsForwardBy}
use Rattle.overlay_plane.specs.Meetings.{MeetsAnother}
use Rattle.overlay_plane.specs.Rounds.{IsSmaller}
use Rattle.overlay_scaled.specs.PlainPoints.{IsPlain}
use Rattle.overlay_scaled.specs.Through.{winding_over}

-- p is a point of e, and an end of it, or a different edge meets e there
pub record IsPlaceOn (es : List CountedEdge) (e : CountedEdge) (p : PlanePoint) : Type 0 where
  pub on : IsOn (ends_of e) p
  pub stop : IsEnd (ends_of e) p ⊎ MeetsAnother es e p

-- the edge e of the list has a piece from the place l to the place m, with no place between
pub record IsPiece (es : List CountedEdge) (e : CountedEdge) (l m : PlanePoint) : Type 0 where
  pub entry : Contains es e
  pub from : IsPlaceOn es e l
  pub to : IsPlaceOn es e m
  pub before : IsSmaller l m
  pub clear : (s : PlanePoint) → IsPlaceOn es e s → IsSmaller l s → IsSmaller s m → ⊥

-- p is a point of e between l and m
pub record IsWithinPiece (e : CountedEdge) (l m p : PlanePoint) : Type 0 where
  pub on : IsOn (ends_of e) p
  pub after : IsSmaller l p
  pub before : IsSmaller p m

-- ---- laws

-- points of a piece between its ends are plain
abbrev pub PiecesArePlain : Type 0
PiecesArePlain = (es : List CountedEdge) (e : CountedEdge) (l m p : PlanePoint) → IsPiece es e l m →
    IsWithinPiece e l m p → IsPlain es e p

-- the subject and the clip wind alike round the two points, below the edges through them and above
pub record HaveSameSides (es : List CountedEdge) (p s : PlanePoint) : Type 0 where
  pub subj_below : winding_by subj_of es p ≡ winding_by subj_of es s
  pub clip_below : winding_by clip_of es p ≡ winding_by clip_of es s
  pub subj_above : winding_over subj_of es p ≡ winding_over subj_of es s
  pub clip_above : winding_over clip_of es p ≡ winding_over clip_of es s

-- the sides of a piece of a merged list with balanced counts have one winding each between its ends
abbrev pub PiecesHaveOneWinding : Type 0
PiecesHaveOneWinding = (content es : List CountedEdge) → IsMerged content es → IsForwardBy ends_of es →
    HasBalancedCounts es → (e : CountedEdge) (l m p s : PlanePoint) → IsPiece es e l m → IsWithinPiece e l m p →
    IsWithinPiece e l m s → HaveSameSides es p s
