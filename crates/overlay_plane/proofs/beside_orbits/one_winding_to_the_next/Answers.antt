-- On the hand's side the winding beside a step is that beside its next step by the hand.
use Rattle.overlay_plane.proofs.BesideNext.{one_winding_to_the_next}
use Rattle.overlay_plane.proofs.beside_orbits.one_winding_to_the_next.Goals as goal

pub returns : goal.returns
returns c = one_winding_to_the_next
