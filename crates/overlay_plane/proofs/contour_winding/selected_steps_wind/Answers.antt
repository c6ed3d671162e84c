-- The selected steps wind once round each point where the rule holds.
use Rattle.overlay_plane.proofs.SelectedWindings.{selected_steps_wind}
use Rattle.overlay_plane.proofs.contour_winding.selected_steps_wind.Goals as goal

pub returns : goal.returns
returns c = selected_steps_wind
