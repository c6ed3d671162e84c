-- The places of the boxes so far stand in front, and there is room for those of the others.
use Rattle.std.proofs.Common.{◌+◌, ◌-◌, ◌≤◌, [], length, take}
use Rattle.overlay_pairs.specs.Extents.{plain_extent, plain_extents}
use Rattle.overlay_pairs.specs.Near.{AreNearAdded}
use Rattle.overlay_pairs.proofs.near.put_near.Given as goal

abbrev pub invariant-loop-k : goal.invariant-loop-k
invariant-loop-k g l =
    (l.count + (l.to - l.k) ≤ length l.places)
    × AreNearAdded (plain_extents g.I.IntNumber.whole l.extents) (plain_extent g.I.IntNumber.whole l.of)
    l.from l.k [] (take l.count l.places)
