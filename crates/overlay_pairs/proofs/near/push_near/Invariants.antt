-- The places of the boxes so far are added, and the current place comes nearer to the end.
use Rattle.std.proofs.Common.{◌-◌, ◌≤◌}
use Rattle.overlay_pairs.specs.Extents.{plain_extent, plain_extents}
use Rattle.overlay_pairs.specs.Near.{AreNearAdded}
use Rattle.overlay_pairs.proofs.near.push_near.Given as goal

abbrev pub invariant-loop-at : goal.invariant-loop-at
invariant-loop-at g l =
    (l.from ≤ l.at) × (l.at ≤ l.to)
    × AreNearAdded (plain_extents g.I.IntNumber.whole l.extents) (plain_extent g.I.IntNumber.whole l.of)
    l.from l.at l.initial.near.items l.near.items

abbrev pub decreases-loop-at : goal.decreases-loop-at
decreases-loop-at g l = l.to - l.at
