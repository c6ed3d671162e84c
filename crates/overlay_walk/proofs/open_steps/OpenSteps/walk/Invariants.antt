-- The walk is under way, and is shorter than there are steps.
use Rattle.std.proofs.Common.{◌-◌, length}
use Rattle.overlay_walk.specs.Steps.{plain_hand}
use Rattle.overlay_walk.proofs.WalksTaken.{IsTaking}
use Rattle.overlay_walk.proofs.open_steps.OpenSteps.walk.Given as goal

abbrev pub invariant-loop-self : goal.invariant-loop-self
invariant-loop-self g l = IsTaking g.I.IntNumber.whole g.I.IntNumber.limit l.fn.self (plain_hand l.hand) l.start
    l.room.items l.step l.self

abbrev pub decreases-loop-self : goal.decreases-loop-self
decreases-loop-self g l = length l.fn.self - length l.room.items
