-- The difference of two points of an edge is the edge times the difference of the parts.
use Rattle.overlay_plane.proofs.WholeOnEdges.{forward_from_test}
use Rattle.overlay_exact.proofs.PartOrder.{compare_alike}
use Rattle.overlay_exact.proofs.laws.parts_order_points.Goals as goal

pub returns : goal.returns
returns c e s t p q forward = compare_alike e (forward_from_test e forward) s t p q
