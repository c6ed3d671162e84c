-- The law is proved in proofs/OrderLaws.antt.
use Rattle.overlay_plane.proofs.OrderLaws.{ends_on_one_side}
use Rattle.overlay_plane.proofs.order.ends_on_one_side.Goals as goal

pub returns : goal.returns
returns c = ends_on_one_side
