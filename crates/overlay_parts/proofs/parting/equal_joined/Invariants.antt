-- The parts are parted into those so far, which ascend, and those to come, which do not come before them.
use Rattle.std.proofs.Common.{◌≡◌, ◌++◌, false, All, drop}
use Rattle.overlay_geom.specs.Edges.{ends_of}
use Rattle.overlay_geom.specs.Plane.{edge_lt}
use Rattle.overlay_order.specs.Content.{IsAscending}
use Rattle.overlay_parts.specs.PartedContents.{edges_in_parts}
use Rattle.overlay_parts.specs.Parts.{plain_parts, AreParted, IsHeldPart}
use Rattle.overlay_parts.specs.Stores.{IsStoreReached}
use Rattle.overlay_parts.proofs.parting.equal_joined.Given as goal

abbrev pub invariant-loop-i : goal.invariant-loop-i
invariant-loop-i g l =
    let plain = plain_parts g.I.IntNumber.whole g.C.EdgeCount.counts in
    AreParted g.C.EdgeCount.merges (plain l.parts) (plain l.joined.items ++ plain (drop l.i l.parts))
    × All (IsHeldPart g.I.IntNumber.limit) (plain l.joined.items)
    × IsAscending (edges_in_parts (plain l.joined.items))
    × All (λ e. All (λ f. edge_lt (ends_of f) (ends_of e) ≡ false) (edges_in_parts (plain (drop l.i l.parts))))
    (edges_in_parts (plain l.joined.items))
    × IsStoreReached g.C.EdgeCount.writes l.initial.store l.store
