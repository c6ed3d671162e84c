-- The bundle's box lies beside the line of the edge.
use Rattle.std.proofs.Common.{inr}
use Rattle.overlay_pairs.proofs.beside.lies_beside.Goals as goal

pub returns-then-size-ge-LEAST_BOXED : goal.returns-then-size-ge-LEAST_BOXED
returns-then-size-ge-LEAST_BOXED g c = λ yes. inr (inr (c.is_box_beside.ensures yes))
