-- From each place a walk comes to the next group, or to the end.
use Rattle.overlay_exact.proofs.PlacesTold.{tell_places}
use Rattle.overlay_exact.proofs.laws.meetings_tell_places.Goals as goal

pub returns : goal.returns
returns c es i e ms given = tell_places es i e ms given
