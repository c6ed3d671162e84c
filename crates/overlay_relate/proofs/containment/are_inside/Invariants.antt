-- The locations so far are answered.
use Rattle.std.proofs.Common.{◌≡◌, map, take}
use Rattle.overlay_relate.specs.Locations.{is_inside}
use Rattle.overlay_relate.proofs.containment.are_inside.Given as goal

abbrev pub invariant-loop-l : goal.invariant-loop-l
invariant-loop-l g l = l.inside.items ≡ map is_inside (take l.l-index l.locations)
