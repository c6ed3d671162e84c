-- An orbit by the empty hand in all hole groups lies in one of them.
use Rattle.overlay_plane.proofs.InsideOneGroup.{orbits_of_hole_groups_are_inside_one}
use Rattle.overlay_plane.proofs.groups.orbits_of_hole_groups_are_inside_one.Goals as goal

pub returns : goal.returns
returns c = orbits_of_hole_groups_are_inside_one
