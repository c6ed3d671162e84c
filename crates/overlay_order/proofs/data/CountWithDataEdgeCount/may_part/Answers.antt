-- Counts with data may be parted where the data may.
use Rattle.overlay_order.proofs.PartedValues.{data_may_part}
use Rattle.overlay_order.proofs.data.CountWithDataEdgeCount.may_part.Goals as goal

pub returns : goal.returns
returns g c = λ is. data_may_part g.D.OverlayEdgeData.merges g.D.OverlayEdgeData.splits g.D.OverlayEdgeData.reverses
    (c.may_part.ensures is)
