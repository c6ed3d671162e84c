-- The boxes so far have been searched, and the current place comes nearer to their end.
use Rattle.std.proofs.Common.{◌-◌, ◌≤◌}
use Rattle.overlay_pairs.specs.Extents.{plain_extent, plain_extents}
use Rattle.overlay_pairs.specs.Near.{IsSearchedTo}
use Rattle.overlay_pairs.proofs.near.find_by_blocks.Given as goal

abbrev pub invariant-loop-at : goal.invariant-loop-at
invariant-loop-at g l =
    (l.at ≤ l.stop)
    × IsSearchedTo (plain_extents g.I.IntNumber.whole l.strips.edges.items) (plain_extent g.I.IntNumber.whole l.of) l.at
    l.near.items

abbrev pub decreases-loop-at : goal.decreases-loop-at
decreases-loop-at g l = l.stop - l.at
