-- The mask tests the bit of the left side.
use Rattle.overlay_order.proofs.DirectionBits.{has_bit-masked}
use Rattle.overlay_string.proofs.kept_pieces.is_filled_left.Goals as goal

pub returns : goal.returns
returns c = has_bit-masked c.args.fill 0
