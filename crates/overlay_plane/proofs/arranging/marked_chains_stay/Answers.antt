-- The law is proved in proofs/ChainMarks.antt.
use Rattle.overlay_plane.proofs.ChainMarks.{marked_chains_stay}
use Rattle.overlay_plane.proofs.arranging.marked_chains_stay.Goals as goal

pub returns : goal.returns
returns c = marked_chains_stay
