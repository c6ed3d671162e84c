-- What is walked so far is split, and what is to come leads back to the start.
use Rattle.std.proofs.Common.{take, drop}
use Rattle.overlay_geom.specs.Points.{plain_point}
use Rattle.overlay_extract.specs.TourOrder.{AreFromStart}
use Rattle.overlay_extract.proofs.TourSplits.{IsOnItsWay}
use Rattle.overlay_walk.specs.Steps.{plain_steps}
use Rattle.overlay_walk.specs.Walks.{plain_walks}
use Rattle.overlay_extract.proofs.slicing.tours.split.Given as goal

abbrev pub invariant-loop-place : goal.invariant-loop-place
invariant-loop-place g l =
    let whole = g.I.IntNumber.whole in
    let tour = plain_steps whole l.tour.items in
    let tours = plain_walks whole l.tours.items in
    IsOnItsWay (plain_point whole l.start) (plain_steps whole (take l.place l.walk))
    (plain_steps whole (drop l.place l.walk)) tour tours
    × AreFromStart (plain_point whole l.start) tour tours
