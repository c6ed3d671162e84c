-- The law is proved in proofs/NodeForms.antt.
use Rattle.overlay_plane.proofs.NodeForms.{under_beside_a_node}
use Rattle.overlay_plane.proofs.node.under_beside_a_node.Goals as goal

pub returns : goal.returns
returns c = under_beside_a_node
