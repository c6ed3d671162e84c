-- No data may be parted.
use Rattle.std.proofs.Common.{refl}
use Rattle.overlay_order.proofs.PartedValues.{none_may_part}
use Rattle.overlay_order.proofs.data.UnitOverlayEdgeData.may_part.Goals as goal

pub returns : goal.returns
returns c = λ is. none_may_part (λ d e. refl)
