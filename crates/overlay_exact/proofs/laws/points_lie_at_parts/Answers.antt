-- A point on an edge is a mean of the ends.
use Rattle.overlay_plane.proofs.WholeOnEdges.{forward_from_test}
use Rattle.overlay_exact.proofs.PartPoints.{part_of_on, on_of_part}
use Rattle.overlay_exact.proofs.laws.points_lie_at_parts.Goals as goal

pub returns : goal.returns
returns c e p forward = (
  part_of_on e (forward_from_test e forward) p,
  λ at. on_of_part e (forward_from_test e forward) p at.0 at.1 at.2,
)
