-- The coordinates so far are in range.
use Rattle.std.proofs.Common.{take}
use Rattle.polyover_calls.specs.Reading.{AreWithin}
use Rattle.polyover_calls.proofs.test.are_within.Given as goal

abbrev pub invariant-loop-coordinate : goal.invariant-loop-coordinate
invariant-loop-coordinate g l =
    AreWithin g.I.IntNumber.whole g.I.IntNumber.limit (take l.coordinate-index l.coordinates)
