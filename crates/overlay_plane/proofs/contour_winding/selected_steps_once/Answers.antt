-- No step is selected twice.
use Rattle.overlay_plane.proofs.SelectedWindings.{selected_steps_once}
use Rattle.overlay_plane.proofs.contour_winding.selected_steps_once.Goals as goal

pub returns : goal.returns
returns c = selected_steps_once
