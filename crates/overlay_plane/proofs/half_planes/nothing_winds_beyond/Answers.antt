-- The law is proved in proofs/BeyondHalves.antt.
use Rattle.overlay_plane.proofs.BeyondHalves.{nothing_winds_beyond}
use Rattle.overlay_plane.proofs.half_planes.nothing_winds_beyond.Goals as goal

pub returns : goal.returns
returns c = nothing_winds_beyond
