-- The mask tests the bit of the right side.
use Rattle.overlay_order.proofs.DirectionBits.{has_bit-masked}
use Rattle.overlay_string.proofs.kept_pieces.is_filled_right.Goals as goal

pub returns : goal.returns
returns c = has_bit-masked c.args.fill 1
