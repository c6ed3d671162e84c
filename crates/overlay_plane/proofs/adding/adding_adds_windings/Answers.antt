-- The law is proved in proofs/AddedWindings.antt.
use Rattle.overlay_plane.proofs.AddedWindings.{adding_adds_windings}
use Rattle.overlay_plane.proofs.adding.adding_adds_windings.Goals as goal

pub returns : goal.returns
returns c = adding_adds_windings
