-- The paths added are those of the resource.
use Rattle.i_overlay.proofs.overlay.Overlay.add_flat_buffer.Goals as goal

pub returns : goal.returns
returns g c = c.add_source.ensures
