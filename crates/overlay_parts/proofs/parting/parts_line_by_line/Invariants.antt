-- The edges are parted into the parts so far and the edges to come.
use Rattle.std.proofs.Common.{◌-◌, ◌≤◌, ◌++◌, All, drop, length, map}
use Rattle.overlay_order.specs.Content.{carried_edges}
use Rattle.overlay_parts.specs.Parts.{lone_part, plain_parts, AreParted, IsHeldPart}
use Rattle.overlay_parts.specs.Stores.{IsStoreReached}
use Rattle.overlay_parts.proofs.parting.parts_line_by_line.Given as goal

abbrev pub invariant-loop-from : goal.invariant-loop-from
invariant-loop-from g l =
    let whole = g.I.IntNumber.whole in
    let counts = g.C.EdgeCount.counts in
    (l.from ≤ length l.edges)
    × AreParted g.C.EdgeCount.merges (map lone_part (carried_edges whole counts l.edges))
    (plain_parts whole counts l.parts.items ++ map lone_part (carried_edges whole counts (drop l.from l.edges)))
    × All (IsHeldPart g.I.IntNumber.limit) (plain_parts whole counts l.parts.items)
    × IsStoreReached g.C.EdgeCount.writes l.initial.store l.store

abbrev pub decreases-loop-from : goal.decreases-loop-from
decreases-loop-from g l = length l.edges - l.from
