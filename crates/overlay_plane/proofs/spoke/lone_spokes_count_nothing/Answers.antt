-- The law is proved in proofs/RoundNodes.antt.
use Rattle.overlay_plane.proofs.RoundNodes.{lone_spokes_count_nothing}
use Rattle.overlay_plane.proofs.spoke.lone_spokes_count_nothing.Goals as goal

pub returns : goal.returns
returns c = lone_spokes_count_nothing
