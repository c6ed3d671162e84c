-- The law is proved in proofs/RoundNodes.antt.
use Rattle.overlay_plane.proofs.RoundNodes.{winding_round_a_node}
use Rattle.overlay_plane.proofs.spoke.winding_round_a_node.Goals as goal

pub returns : goal.returns
returns c = winding_round_a_node
