-- Places between the ends of a piece there are none.
use Rattle.overlay_exact.proofs.PiecesFollow.{pieces_follow}
use Rattle.overlay_exact.proofs.laws.pieces_follow_each_other.Goals as goal

pub returns : goal.returns
returns c es e forward = pieces_follow es forward e
