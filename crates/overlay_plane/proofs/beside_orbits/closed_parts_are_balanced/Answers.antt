-- The steps of an alternating set that a closed test takes have balanced counts, and so do those that it leaves.
use Rattle.overlay_plane.proofs.BalancedSteps.{closed_parts_are_balanced}
use Rattle.overlay_plane.proofs.beside_orbits.closed_parts_are_balanced.Goals as goal

pub returns : goal.returns
returns c = closed_parts_are_balanced
