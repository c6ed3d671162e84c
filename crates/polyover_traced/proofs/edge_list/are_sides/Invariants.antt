-- The sides so far stand for something.
use Rattle.std.proofs.Common.{take}
use Rattle.polyover_traced.specs.EdgeLists.{AreSides}
use Rattle.polyover_traced.proofs.edge_list.are_sides.Given as goal

abbrev pub invariant-loop-side : goal.invariant-loop-side
invariant-loop-side l = AreSides (take l.side-index l.sides)
