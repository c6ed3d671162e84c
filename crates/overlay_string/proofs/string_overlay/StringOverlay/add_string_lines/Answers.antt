-- The paths added are those of the resource.
use Rattle.overlay_string.proofs.string_overlay.StringOverlay.add_string_lines.Goals as goal

pub returns : goal.returns
returns g c = c.add_string_source.ensures
