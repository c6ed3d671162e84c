-- The locations so far have their numbers.
use Rattle.std.proofs.Common.{◌≡◌, map, take}
use Rattle.polyover_calls.specs.Located.{number_of}
use Rattle.polyover_calls.proofs.locate.numbers_of.Given as goal

abbrev pub invariant-loop-location : goal.invariant-loop-location
invariant-loop-location l = l.numbers.items ≡ map number_of (take l.location-index l.locations)
