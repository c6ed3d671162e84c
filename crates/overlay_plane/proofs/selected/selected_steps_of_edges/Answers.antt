-- The law is proved in proofs/SelectedLists.antt.
use Rattle.overlay_plane.proofs.SelectedLists.{selected_steps_of_edges}
use Rattle.overlay_plane.proofs.selected.selected_steps_of_edges.Goals as goal

pub returns : goal.returns
returns c = selected_steps_of_edges
