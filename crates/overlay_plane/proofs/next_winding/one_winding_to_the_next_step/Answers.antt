-- The law is proved in proofs/NextWindings.antt.
use Rattle.overlay_plane.proofs.NextWindings.{one_winding_to_the_next_step}
use Rattle.overlay_plane.proofs.next_winding.one_winding_to_the_next_step.Goals as goal

pub returns : goal.returns
returns c = one_winding_to_the_next_step
