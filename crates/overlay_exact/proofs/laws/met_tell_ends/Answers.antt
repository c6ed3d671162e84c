-- Each edge through an end of the edge has its meeting point with it there.
use Rattle.overlay_exact.proofs.MetRises.{ends_told}
use Rattle.overlay_exact.proofs.laws.met_tell_ends.Goals as goal

pub returns : goal.returns
returns c count es i e ms from given place = ends_told count es i e ms given from place
