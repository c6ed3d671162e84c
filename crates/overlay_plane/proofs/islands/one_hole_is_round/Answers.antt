-- At most one hole is round an island.
use Rattle.overlay_plane.proofs.OneHoleRound.{one_hole_round}
use Rattle.overlay_plane.proofs.islands.one_hole_is_round.Goals as goal

pub returns : goal.returns
returns c = one_hole_round
