-- The lines of the edges so far.
use Rattle.std.proofs.Common.{◌≡◌, map, take}
use Rattle.overlay_order.specs.Content.{plain_edges}
use Rattle.overlay_located.specs.Slabs.{plain_lines}
use Rattle.overlay_located.proofs.heights.lines_of.Given as goal

abbrev pub invariant-loop-e : goal.invariant-loop-e
invariant-loop-e g l =
    let whole = g.I.IntNumber.whole in
    plain_lines whole g.C.EdgeCount.counts l.lines.items
    ≡ plain_edges whole g.C.EdgeCount.counts (map g.E.EdgeForm.meant (take l.e-index l.edges))
