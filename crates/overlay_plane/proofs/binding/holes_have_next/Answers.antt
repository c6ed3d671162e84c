-- Each hole has a next filled-above edge below it.
use Rattle.overlay_plane.proofs.NextOfHoles.{holes_have_next}
use Rattle.overlay_plane.proofs.binding.holes_have_next.Goals as goal

pub returns : goal.returns
returns c = holes_have_next
