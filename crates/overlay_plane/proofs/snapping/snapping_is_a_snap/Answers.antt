-- The law is proved in proofs.SnappedEdges.antt.
use Rattle.overlay_plane.proofs.SnappedEdges.{snapping_is_a_snap}
use Rattle.overlay_plane.proofs.snapping.snapping_is_a_snap.Goals as goal

pub returns : goal.returns
returns c = snapping_is_a_snap
