-- The law is proved in proofs/NodeForms.antt.
use Rattle.overlay_plane.proofs.NodeForms.{winding_beside_uprights}
use Rattle.overlay_plane.proofs.node.winding_beside_uprights.Goals as goal

pub returns : goal.returns
returns c = winding_beside_uprights
