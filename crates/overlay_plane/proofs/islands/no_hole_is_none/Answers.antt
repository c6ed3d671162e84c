-- One hole is not none.
use Rattle.overlay_plane.proofs.OneHoleRound.{hole_and_none}
use Rattle.overlay_plane.proofs.islands.no_hole_is_none.Goals as goal

pub returns : goal.returns
returns c = hole_and_none
