-- The law is proved in proofs/ReachedEdges.antt.
use Rattle.overlay_plane.proofs.ReachedEdges.{regions_reach_edges}
use Rattle.overlay_plane.proofs.predicates.regions_reach_edges.Goals as goal

pub returns : goal.returns
returns c = regions_reach_edges
