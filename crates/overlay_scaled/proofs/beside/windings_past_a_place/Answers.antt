-- The law is proved in proofs/PastPlaces.antt.
use Rattle.overlay_scaled.proofs.PastPlaces.{windings_past_a_place}
use Rattle.overlay_scaled.proofs.beside.windings_past_a_place.Goals as goal

pub returns : goal.returns
returns c = windings_past_a_place
