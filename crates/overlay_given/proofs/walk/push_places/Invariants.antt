-- The entry is added as often as the count says.
use Rattle.std.proofs.Common.{◌-◌, ◌≤◌}
use Rattle.overlay_given.specs.Places.{AddsTimes}
use Rattle.overlay_given.proofs.walk.push_places.Given as goal

abbrev pub invariant-loop-n : goal.invariant-loop-n
invariant-loop-n g l = record {
  within : l.n ≤ l.count;
  adds : AddsTimes l.n (record { before = l.before; after = l.after }) l.fn.places.items l.places.items;
}

abbrev pub decreases-loop-n : goal.decreases-loop-n
decreases-loop-n g l = l.count - l.n
