-- Snap rounding of merged edges that are not settled. Where all meeting points are whole, it cuts the edges at these
-- points. Else it leads each edge through the hot points whose pixels it meets.
use Rattle.std.specs.Prelude.{ℕ, ◌≤◌, List, flat_map}
use Rattle.overlay_geom.specs.Edges.{CountedEdge, weight}
use Rattle.overlay_plane.specs.Carried.{Carried, edges_in}
use Rattle.overlay_plane.specs.CutPoints.{cut_points}
use Rattle.overlay_plane.specs.Cutting.{pieces_through}
use Rattle.overlay_plane.specs.Meetings.{MeetInWholePoints}
use Rattle.overlay_plane.specs.SnapPoints.{snap_points}
use Rattle.overlay_parts.specs.PartedContents.{covered}
use Rattle.overlay_arrange.specs.Batches.{AreJoinedPieces}
use Rattle.overlay_arrange.specs.Cut.{LeadingPoints}
use Rattle.overlay_arrange.specs.Parting.{cover_weight, AreJoinedParts}

-- snap rounding leads the edges of the list through these points
pub data AreLedBySnapping (es : List CountedEdge) : LeadingPoints → Type 0 where
  cut : MeetInWholePoints es → AreLedBySnapping es (cut_points es)
  snapped : ¬ (MeetInWholePoints es) → AreLedBySnapping es (snap_points es)

-- the second list stands for the pieces of the edges of the first
pub record IsLedOnce {C : Type 0} (merges : C → C → C → Type 0) (splits reverses : C → C → Type 0)
    (old new : List (Carried C)) : Type 0 where
  pub points : LeadingPoints
  pub led : AreLedBySnapping (edges_in old) points
  pub joined : AreJoinedPieces merges splits reverses points old new

-- the pieces weigh the limit or more
pub record AreHeavyPieces (limit : ℕ) (es : List CountedEdge) : Type 0 where
  pub points : LeadingPoints
  pub led : AreLedBySnapping es points
  pub heavy : limit ≤ weight (flat_map (pieces_through points) es)

-- the second list stands for the pieces of the edges of the first, where each is heavier by its hidden weight
pub record ArePartsLedOnce {C : Type 0} (merges : C → C → C → Type 0) (splits reverses : C → C → Type 0)
    (hidden : List ℕ) (old new : List (Carried C)) : Type 0 where
  pub points : LeadingPoints
  pub led : AreLedBySnapping (edges_in old) points
  pub joined : AreJoinedParts merges splits reverses points (covered old hidden) new

-- these pieces weigh the limit or more
pub record ArePartsLedHeavy {C : Type 0} (limit : ℕ) (hidden : List ℕ) (old : List (Carried C)) : Type 0 where
  pub points : LeadingPoints
  pub led : AreLedBySnapping (edges_in old) points
  pub heavy : limit ≤ cover_weight points (covered old hidden)
