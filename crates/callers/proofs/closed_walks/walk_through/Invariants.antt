-- What is walked so far leads from the start to the point reached.
use Rattle.std.specs.Prelude.{All}
use Rattle.overlay_geom.specs.Points.{plain_point}
use Rattle.overlay_extract.specs.ClosedWalks.{HasLength, LeadsTo}
use Rattle.overlay_walk.specs.Steps.{plain_steps}
use Rattle.callers.proofs.closed_walks.walk_through.Given as goal

abbrev pub invariant-loop-i : goal.invariant-loop-i
invariant-loop-i g l =
    let whole = g.I.IntNumber.whole in
    LeadsTo (plain_point whole l.start) (plain_steps whole l.walk.items) (plain_point whole l.reached)
    × All HasLength (plain_steps whole l.walk.items)
