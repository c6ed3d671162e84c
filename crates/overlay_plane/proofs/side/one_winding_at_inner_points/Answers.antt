-- The law is proved in proofs/Sides.antt.
use Rattle.overlay_plane.proofs.Sides.{one_winding_at_inner_points}
use Rattle.overlay_plane.proofs.side.one_winding_at_inner_points.Goals as goal

pub returns : goal.returns
returns c = one_winding_at_inner_points
