-- The law is proved in proofs/RegionBelow.antt.
use Rattle.overlay_plane.proofs.RegionBelow.{region_from_selected_signs}
use Rattle.overlay_plane.proofs.region.region_from_selected_signs.Goals as goal

pub returns : goal.returns
returns c = region_from_selected_signs
