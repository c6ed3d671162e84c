-- The steps so far leave the end of the step. The place is the first of those so far, and the end of its step is the
-- point held.
use Rattle.std.proofs.Common.{◌≡◌, ℕ, ◌<◌, ◌≤◌}
use Rattle.overlay_geom.specs.Points.{plain_point}
use Rattle.overlay_walk.specs.Places.{is_open, step_at}
use Rattle.overlay_walk.specs.Steps.{plain_hand, plain_steps}
use Rattle.overlay_walk.proofs.FirstPlaces.{IsFirstOf}
use Rattle.overlay_walk.proofs.NextPlaces.{is_place_met_before, held_at}
use Rattle.overlay_walk.proofs.next.place_of_next.Given as goal

abbrev pub invariant-loop-i : goal.invariant-loop-i
invariant-loop-i g l =
    let whole = g.I.IntNumber.whole in
    let ss = plain_steps whole l.steps in
    let hand = plain_hand l.fn.hand in
    let v = plain_point whole l.fn.step.to in
    let u = plain_point whole l.fn.step.from in
    (l.nearest ≡ held_at ss hand v u l.found)
    × IsFirstOf (is_open l.taken) (is_place_met_before ss hand v u) l.low l.i l.found
    × ((k : ℕ) → l.low ≤ k → k < l.i → (step_at ss k).from ≡ v)
