-- The paths are added in this role.
use Rattle.overlay_string.proofs.string_overlay.StringOverlay.add_shape_source.Goals as goal

pub returns : goal.returns
returns g c = c.add_all.ensures
