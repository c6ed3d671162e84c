-- The law is proved in proofs/RegionBelow.antt.
use Rattle.overlay_plane.proofs.RegionBelow.{region_below_an_edge}
use Rattle.overlay_plane.proofs.region.region_below_an_edge.Goals as goal

pub returns : goal.returns
returns c = region_below_an_edge
