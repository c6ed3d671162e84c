-- An orbit by the empty hand in a group visits no point twice.
use Rattle.overlay_plane.proofs.InsideGroups.{walks_inside_groups_are_simple}
use Rattle.overlay_plane.proofs.groups.walks_inside_groups_are_simple.Goals as goal

pub returns : goal.returns
returns c = walks_inside_groups_are_simple
