-- Each hole has a parent, and is none that has no parent.
use Rattle.overlay_plane.proofs.HoleParents.{holes_have_parents}
use Rattle.overlay_plane.proofs.binding.holes_have_parents.Goals as goal

pub returns : goal.returns
returns c = holes_have_parents
