-- Each edge through an end of the edge has its meeting point with it there.
use Rattle.overlay_exact.proofs.MetRises.{starts_told}
use Rattle.overlay_exact.proofs.laws.met_tell_starts.Goals as goal

pub returns : goal.returns
returns c count es i e ms end given place = starts_told count es i e ms given end place
