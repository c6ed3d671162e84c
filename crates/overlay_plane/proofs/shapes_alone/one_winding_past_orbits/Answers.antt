-- Its pairs at a node lie between the two steps, or outside them.
use Rattle.overlay_plane.proofs.PastOrbits.{one_winding_past_orbits}
use Rattle.overlay_plane.proofs.shapes_alone.one_winding_past_orbits.Goals as goal

pub returns : goal.returns
returns c = one_winding_past_orbits
