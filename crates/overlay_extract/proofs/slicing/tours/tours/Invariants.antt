-- The orbits so far are split.
use Rattle.std.proofs.Common.{take, All}
use Rattle.overlay_extract.specs.TourOrder.{IsTourOfOne}
use Rattle.overlay_extract.specs.Tours.{AreSplitIntoTours}
use Rattle.overlay_walk.specs.Walks.{plain_walks}
use Rattle.overlay_extract.proofs.slicing.tours.tours.Given as goal

abbrev pub invariant-loop-i : goal.invariant-loop-i
invariant-loop-i g l =
    let whole = g.I.IntNumber.whole in
    AreSplitIntoTours (plain_walks whole (take l.i l.orbits)) (plain_walks whole l.tours.items)
    × All (IsTourOfOne (plain_walks whole (take l.i l.orbits))) (plain_walks whole l.tours.items)
