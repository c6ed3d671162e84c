-- So far the parts are those of the edges before place i.
use Rattle.std.proofs.Common.{◌≡◌, map, take}
use Rattle.overlay_order.specs.Content.{carried_edges}
use Rattle.overlay_parts.specs.Parts.{lone_part, plain_parts}
use Rattle.overlay_parts.proofs.parts.lone_parts.Given as goal

abbrev pub invariant-loop-i : goal.invariant-loop-i
invariant-loop-i g l =
    plain_parts g.I.IntNumber.whole g.C.EdgeCount.counts l.parts.items
    ≡ map lone_part (carried_edges g.I.IntNumber.whole g.C.EdgeCount.counts (take l.i l.edges))
