-- A cleared list has no items.
use Rattle.std.proofs.Common.{rules}
use Rattle.overlay_walk.proofs.open_steps.OpenSteps.into_room.Goals as goal

pub returns : goal.returns
returns g c = search rules steps 100000
