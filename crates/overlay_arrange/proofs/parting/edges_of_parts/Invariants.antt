-- So far the edges and their hidden weights are those of the parts before place i.
use Rattle.std.proofs.Common.{◌≡◌, map, take}
use Rattle.overlay_parts.specs.PartedContents.{hidden_weight}
use Rattle.overlay_parts.specs.PartedContents.{carried_parts}
use Rattle.overlay_parts.specs.Parts.{plain_parts}
use Rattle.overlay_arrange.proofs.parting.edges_of_parts.Given as goal

abbrev pub invariant-loop-i : goal.invariant-loop-i
invariant-loop-i g l =
    let so_far = plain_parts g.I.IntNumber.whole g.C.EdgeCount.counts (take l.i l.parts) in
    (l.content ≡ carried_parts so_far) × (l.hidden.items ≡ map hidden_weight so_far)
