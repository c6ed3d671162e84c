-- Data is equal where its test says so.
use Rattle.overlay_vector.proofs.joining.have_equal_data.Goals as goal

pub returns : goal.returns
returns g c = c.eq.ensures
