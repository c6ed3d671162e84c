-- The lines so far are divided.
use Rattle.std.proofs.Common.{take}
use Rattle.overlay_located.specs.Slabs.{plain_lines, plain_slab, AreDivided}
use Rattle.overlay_located.proofs.node.divide.Given as goal

abbrev pub invariant-loop-line : goal.invariant-loop-line
invariant-loop-line g l =
    let whole = g.I.IntNumber.whole in
    let counts = g.C.EdgeCount.counts in
    AreDivided (plain_slab whole l.slab) (plain_lines whole counts (take l.line-index l.lines))
    (plain_lines whole counts l.spanning.items) (plain_lines whole counts l.kept.items)
