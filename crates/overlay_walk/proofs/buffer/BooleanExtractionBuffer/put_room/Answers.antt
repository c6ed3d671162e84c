-- A cleared list has no items.
use Rattle.std.proofs.Common.{rules}
use Rattle.overlay_walk.proofs.buffer.BooleanExtractionBuffer.put_room.Goals as goal

pub invariant_of-self : goal.invariant_of-self
invariant_of-self g c = search rules steps 100000
