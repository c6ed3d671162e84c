-- The path is added in this role.
use Rattle.overlay_string.proofs.string_overlay.StringOverlay.add_string_contour.Goals as goal

pub returns : goal.returns
returns g c = c.add_one.ensures
