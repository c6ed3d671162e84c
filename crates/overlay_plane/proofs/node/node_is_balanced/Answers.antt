-- The law is proved in proofs/NodeWindings.antt.
use Rattle.overlay_plane.proofs.NodeWindings.{node_is_balanced}
use Rattle.overlay_plane.proofs.node.node_is_balanced.Goals as goal

pub returns : goal.returns
returns c = node_is_balanced
