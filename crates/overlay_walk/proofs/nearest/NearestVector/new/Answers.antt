-- No point is held.
use Rattle.std.proofs.Common.{rules}
use Rattle.overlay_walk.proofs.nearest.NearestVector.new.Goals as goal

pub returns : goal.returns
returns g c = search rules steps 100000
