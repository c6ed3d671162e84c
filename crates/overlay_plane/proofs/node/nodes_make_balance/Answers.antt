-- The law is proved in proofs/NodesMakeBalance.antt.
use Rattle.overlay_plane.proofs.NodesMakeBalance.{nodes_make_balance}
use Rattle.overlay_plane.proofs.node.nodes_make_balance.Goals as goal

pub returns : goal.returns
returns c = nodes_make_balance
