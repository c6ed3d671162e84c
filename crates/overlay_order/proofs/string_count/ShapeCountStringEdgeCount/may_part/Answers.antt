-- Counts with directions may be parted.
use Rattle.overlay_order.proofs.PartedValues.{string_may_part}
use Rattle.overlay_order.proofs.string_count.ShapeCountStringEdgeCount.may_part.Goals as goal

pub returns : goal.returns
returns c = λ is. string_may_part
