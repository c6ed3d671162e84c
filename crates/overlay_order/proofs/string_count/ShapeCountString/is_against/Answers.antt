-- The mask tests the second bit.
use Rattle.overlay_order.proofs.DirectionBits.{has_bit-mask}
use Rattle.overlay_order.proofs.string_count.ShapeCountString.is_against.Goals as goal

pub returns : goal.returns
returns c = has_bit-mask c.args.self.clip
