-- The laws of the cyclic order.
use Rattle.overlay_plane.proofs.CyclicOrder.{rays_in_cyclic_order}
use Rattle.overlay_plane.proofs.rays.rays_in_cyclic_order.Goals as goal

pub returns : goal.returns
returns c = rays_in_cyclic_order
