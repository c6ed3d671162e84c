-- The law is proved in proofs/Sides.antt.
use Rattle.overlay_plane.proofs.Sides.{one_winding_along_a_side}
use Rattle.overlay_plane.proofs.side.one_winding_along_a_side.Goals as goal

pub returns : goal.returns
returns c = one_winding_along_a_side
