-- The law is proved in proofs/SharedFound.antt.
use Rattle.overlay_given.proofs.SharedFound.{places_tell_shared_places}
use Rattle.overlay_given.proofs.laws.places_tell_shared_places.Goals as goal

pub returns : goal.returns
returns c = places_tell_shared_places
