-- The law is proved in proofs/AfterRounds.antt.
use Rattle.overlay_plane.proofs.AfterRounds.{arranged_stays_arranged}
use Rattle.overlay_plane.proofs.arranging.arranged_stays_arranged.Goals as goal

pub returns : goal.returns
returns c = arranged_stays_arranged
