-- Exact arrangements: the edges of a list, scaled so that they meet in whole points alone, merged, cut at all meeting
-- points, and merged again. They tell the relations of the list itself, whose own meeting points need not be whole.
use Rattle.std.specs.Prelude.{◌≡◌, false, Bool, ℤ, pos, ◌<ℤ◌, List, All}
use Rattle.overlay_geom.specs.Edges.{CountedEdge, ends_of}
use Rattle.overlay_geom.specs.Merged.{IsMerged, HaveSameWindings}
use Rattle.overlay_geom.specs.Rounding.{IsRounding}
use Rattle.overlay_plane.specs.Balance.{HasBalancedCounts}
use Rattle.overlay_plane.specs.EdgeLists.{IsForwardBy}
use Rattle.overlay_plane.specs.GivenPredicates.{KeepsPointsOff}
use Rattle.overlay_plane.specs.Meetings.{MeetInWholePoints}
use Rattle.overlay_plane.specs.Predicates.{IsFillable}
use Rattle.overlay_plane.specs.Regions.{IsPlanar}
use Rattle.overlay_plane.specs.Rounds.{Round, IsCutAt, pieces_of}
use Rattle.overlay_scaled.specs.Scaled.{scaled}

-- the second list is an exact arrangement of the first, n times as large
pub record IsExactArrangement (n : ℤ) (es new : List CountedEdge) : Type 0 where
  pub scale : pos 0 <ℤ n
  pub whole : MeetInWholePoints (scaled n es)
  pub round : Round
  pub merged : IsMerged (scaled n es) round.edges
  pub cut : All (λ e. IsCutAt round.edges e (round.cuts e)) round.edges
  pub rounding : IsRounding round.whole_at
  pub pieces : IsMerged (pieces_of round) new

-- it is planar and balanced, no edge of it has a point off the scaled edges, and no winding changes
pub record ArrangesExactly (n : ℤ) (es new : List CountedEdge) : Type 0 where
  pub planar : IsPlanar new
  pub balanced : HasBalancedCounts new
  pub off : KeepsPointsOff (scaled n es) new
  pub windings : HaveSameWindings (scaled n es) new

-- ---- laws

-- a list that leads forward has an exact arrangement
abbrev pub ExactArrangementsExist : Type 0
ExactArrangementsExist = (es : List CountedEdge) → IsForwardBy ends_of es →
    (n : ℤ) × (new : List CountedEdge) × IsExactArrangement n es new

-- an exact arrangement of a list with balanced counts has what the laws of arrangements ask for
abbrev pub ExactArrangementsArrange : Type 0
ExactArrangementsArrange = (n : ℤ) (es new : List CountedEdge) → IsForwardBy ends_of es → HasBalancedCounts es →
    IsExactArrangement n es new → ArrangesExactly n es new

-- and the laws on fillings apply to it
abbrev pub ExactArrangementsAreFillable : Type 0
ExactArrangementsAreFillable = (n : ℤ) (es new : List CountedEdge) (filled : ℤ → Bool) →
    ArrangesExactly n es new → filled (pos 0) ≡ false → IsFillable filled new

-- a merged list has no edge at a point off the list, and winds as the list
abbrev pub MergingKeepsPointsOff : Type 0
MergingKeepsPointsOff = (content es : List CountedEdge) → IsMerged content es → KeepsPointsOff content es
