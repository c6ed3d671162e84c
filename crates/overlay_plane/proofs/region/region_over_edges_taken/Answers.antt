-- The law is proved in proofs/RegionBelow.antt.
use Rattle.overlay_plane.proofs.RegionBelow.{region_over_edges_taken}
use Rattle.overlay_plane.proofs.region.region_over_edges_taken.Goals as goal

pub returns : goal.returns
returns c = region_over_edges_taken
