-- The law is proved in proofs/LeftmostPoints.antt.
use Rattle.overlay_plane.proofs.LeftmostPoints.{nothing_before_the_leftmost}
use Rattle.overlay_plane.proofs.leftmost.nothing_before_the_leftmost.Goals as goal

pub returns : goal.returns
returns c = nothing_before_the_leftmost
