-- The edges that rounds leave, and those of an arrangement, lead from their smaller ends to their larger ones.
use Rattle.std.proofs.Common.{List, [], ◌∷◌}
use Rattle.overlay_geom.specs.Edges.{CountedEdge, ends_of}
use Rattle.overlay_geom.specs.Merged.{IsMerged}
use Rattle.overlay_plane.specs.EdgeLists.{IsForwardBy}
use Rattle.overlay_plane.specs.Rounds.{Round, pieces_of, after_rounds}
use Rattle.overlay_plane.proofs.OneArrangement.{pieces_forward}
use Rattle.overlay_plane.proofs.WholeCuts.{forward_merged}

-- the edges after rounds
rounds_lead_on : (old : List CountedEdge) (rounds : List Round) → IsForwardBy ends_of old →
    IsForwardBy ends_of (after_rounds old rounds)
rounds_lead_on old [] forward = forward
rounds_lead_on old (r ∷ rounds) forward = rounds_lead_on (pieces_of r) rounds (pieces_forward r)

-- and those merged from them
pub arranged_lead_on : (old new : List CountedEdge) (rounds : List Round) → IsMerged (after_rounds old rounds) new →
    IsForwardBy ends_of old → IsForwardBy ends_of new
arranged_lead_on old new rounds merged forward =
    forward_merged (after_rounds old rounds) new merged (rounds_lead_on old rounds forward)
