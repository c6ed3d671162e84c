-- The law is proved in proofs/OrderLaws.antt.
use Rattle.overlay_plane.proofs.OrderLaws.{ends_below_where_under}
use Rattle.overlay_plane.proofs.order.ends_below_where_under.Goals as goal

pub returns : goal.returns
returns c = ends_below_where_under
