-- The law is proved in proofs/CuttingRounds.antt.
use Rattle.overlay_plane.proofs.CuttingRounds.{cutting_is_a_round}
use Rattle.overlay_plane.proofs.meeting.cutting_is_a_round.Goals as goal

pub returns : goal.returns
returns c = cutting_is_a_round
