-- The law is proved in proofs/NodeWindings.antt.
use Rattle.overlay_plane.proofs.NodeWindings.{winding_from_an_end}
use Rattle.overlay_plane.proofs.node.winding_from_an_end.Goals as goal

pub returns : goal.returns
returns c = winding_from_an_end
