-- The two bits change places.
use Rattle.overlay_order.proofs.DirectionBits.{reversed-by_shifts}
use Rattle.overlay_order.proofs.string_count.reversed_directions.Goals as goal

pub returns : goal.returns
returns c = reversed-by_shifts c.args.directions
