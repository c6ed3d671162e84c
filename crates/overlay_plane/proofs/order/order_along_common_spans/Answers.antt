-- The law is proved in proofs/OrderLaws.antt.
use Rattle.overlay_plane.proofs.OrderLaws.{order_along_common_spans}
use Rattle.overlay_plane.proofs.order.order_along_common_spans.Goals as goal

pub returns : goal.returns
returns c = order_along_common_spans
