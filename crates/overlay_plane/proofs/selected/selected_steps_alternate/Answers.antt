-- The law is proved in proofs/SelectedAlternate.antt.
use Rattle.overlay_plane.proofs.SelectedAlternate.{selected_steps_alternate}
use Rattle.overlay_plane.proofs.selected.selected_steps_alternate.Goals as goal

pub returns : goal.returns
returns c = selected_steps_alternate
