-- The law is proved in proofs/GreatestBelow.antt.
use Rattle.overlay_plane.proofs.GreatestBelow.{winding_above_the_greatest_below}
use Rattle.overlay_plane.proofs.greatest.winding_above_the_greatest_below.Goals as goal

pub returns : goal.returns
returns c = winding_above_the_greatest_below
