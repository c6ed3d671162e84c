-- The walks so far are the beginning of a cut, and fewer steps are left after each.
use Rattle.std.proofs.Common.{length, All}
use Rattle.std.specs.Prelude.{Contains}
use Rattle.overlay_walk.specs.Steps.{plain_steps, hand_by}
use Rattle.overlay_walk.specs.Walks.{plain_walks}
use Rattle.overlay_walk.proofs.CutsOn.{IsCutSoFar}
use Rattle.overlay_walk.proofs.contour_cut.cut_into_contours.Given as goal

abbrev pub invariant-loop-start : goal.invariant-loop-start
invariant-loop-start g l =
    let plain = plain_steps g.I.IntNumber.whole in
    IsCutSoFar (hand_by l.rule) (plain l.fn.steps) (plain l.steps) (plain_walks g.I.IntNumber.whole l.contours.items)
    × All (λ w. All (Contains l.fn.steps) w.items) l.contours.items
    × All (Contains l.fn.steps) l.steps

abbrev pub decreases-loop-start : goal.decreases-loop-start
decreases-loop-start g l = length l.steps
