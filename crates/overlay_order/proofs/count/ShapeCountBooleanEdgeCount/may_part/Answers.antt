-- Counts of the subject and the clip may be parted.
use Rattle.overlay_order.proofs.PartedValues.{boolean_may_part}
use Rattle.overlay_order.proofs.count.ShapeCountBooleanEdgeCount.may_part.Goals as goal

pub returns : goal.returns
returns c = λ is. boolean_may_part
