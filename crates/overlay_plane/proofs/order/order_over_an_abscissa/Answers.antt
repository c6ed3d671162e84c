-- The law is proved in proofs/OrderLaws.antt.
use Rattle.overlay_plane.proofs.OrderLaws.{order_over_an_abscissa}
use Rattle.overlay_plane.proofs.order.order_over_an_abscissa.Goals as goal

pub returns : goal.returns
returns c = order_over_an_abscissa
