-- The law is proved in proofs/ExactRounds.antt.
use Rattle.overlay_plane.proofs.ExactRounds.{whole_meetings_are_exact}
use Rattle.overlay_plane.proofs.arranging.whole_meetings_are_exact.Goals as goal

pub returns : goal.returns
returns c = whole_meetings_are_exact
