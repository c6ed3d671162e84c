-- Along an orbit of filled sides the winding on the hand's side is one number.
use Rattle.overlay_extract.proofs.AlongSides.{one_winding_along_sides}
use Rattle.overlay_extract.proofs.slicing.filled_sides.one_winding_along_sides.Goals as goal

pub returns : goal.returns
returns c = one_winding_along_sides
