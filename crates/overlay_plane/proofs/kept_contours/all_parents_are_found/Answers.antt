-- The parents of holes are the shapes found.
use Rattle.overlay_plane.proofs.FreeHoles.{all_parents_are_found}
use Rattle.overlay_plane.proofs.kept_contours.all_parents_are_found.Goals as goal

pub returns : goal.returns
returns c = all_parents_are_found
