-- The law is proved in proofs/RoundNodes.antt.
use Rattle.overlay_plane.proofs.RoundNodes.{one_winding_between_spokes}
use Rattle.overlay_plane.proofs.spoke.one_winding_between_spokes.Goals as goal

pub returns : goal.returns
returns c = one_winding_between_spokes
