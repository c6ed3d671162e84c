-- The loops so far are turned round.
use Rattle.std.proofs.Common.{◌≡◌, map, take}
use Rattle.overlay_extract.specs.ClosedWalks.{turned_loop}
use Rattle.overlay_walk.specs.Walks.{plain_walks}
use Rattle.overlay_extract.proofs.slicing.loops.turned_loops.Given as goal

abbrev pub invariant-loop-i : goal.invariant-loop-i
invariant-loop-i g l =
    let whole = g.I.IntNumber.whole in
    plain_walks whole l.turned.items ≡ map turned_loop (plain_walks whole (take l.i l.loops))
