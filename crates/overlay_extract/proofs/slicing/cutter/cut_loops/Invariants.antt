-- What is walked so far is cut, in order, and what is to come leads back to the start. The places of the points on the
-- path are noted.
use Rattle.std.proofs.Common.{All, take, drop}
use Rattle.overlay_extract.specs.Repeats.{IsCutOnTheWay}
use Rattle.overlay_extract.specs.Visits.{AreNoted, IsLeft}
use Rattle.overlay_extract.proofs.CutPlaces.{IsOnItsWay}
use Rattle.overlay_walk.specs.Steps.{plain_steps}
use Rattle.overlay_walk.specs.Walks.{plain_walks}
use Rattle.overlay_extract.proofs.slicing.cutter.cut_loops.Given as goal

abbrev pub invariant-loop-place : goal.invariant-loop-place
invariant-loop-place g l =
    let whole = g.I.IntNumber.whole in
    let path = plain_steps whole l.cutter.path.items in
    let loops = plain_walks whole l.cutter.loops.items in
    IsOnItsWay (plain_steps whole (take l.place l.walk)) (plain_steps whole (drop l.place l.walk)) path loops
    × IsCutOnTheWay (plain_steps whole l.walk) path (plain_steps whole (drop l.place l.walk)) loops
    × AreNoted whole l.visits.steps.items l.visits.places.items path
    × All (λ s. IsLeft whole l.visits.steps.items s.from) (plain_steps whole l.walk)
