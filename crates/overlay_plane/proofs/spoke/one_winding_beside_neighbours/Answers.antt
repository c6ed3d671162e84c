-- The law is proved in proofs/RoundNodes.antt.
use Rattle.overlay_plane.proofs.RoundNodes.{one_winding_beside_neighbours}
use Rattle.overlay_plane.proofs.spoke.one_winding_beside_neighbours.Goals as goal

pub returns : goal.returns
returns c = one_winding_beside_neighbours
