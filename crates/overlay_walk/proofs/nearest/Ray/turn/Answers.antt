-- The cross product tells.
use Rattle.std.proofs.Common.{rules}
use Rattle.overlay_walk.proofs.nearest.Ray.turn.Goals as goal

pub returns-in-Left : goal.returns-in-Left
returns-in-Left g c = search rules steps 100000

pub returns-in-Right : goal.returns-in-Right
returns-in-Right g c = search rules steps 100000
