use Rattle.overlay_vector.proofs.TurnedFills.{turned_twice}
use Rattle.overlay_vector.proofs.laws.reversed_twice_keeps_four_bits.Goals as goal

pub returns : goal.returns
returns c = turned_twice
