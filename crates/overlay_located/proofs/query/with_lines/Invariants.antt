-- What the lines so far tell is added.
use Rattle.std.proofs.Common.{take}
use Rattle.overlay_located.specs.Slabs.{plain_lines}
use Rattle.overlay_located.specs.Queries.{plain_query, Adds}
use Rattle.overlay_located.proofs.query.with_lines.Given as goal

abbrev pub invariant-loop-line : goal.invariant-loop-line
invariant-loop-line g l =
    let whole = g.I.IntNumber.whole in
    let counts = g.C.EdgeCount.counts in
    Adds (plain_lines whole counts (take l.line-index l.lines)) (plain_query whole counts l.fn.q)
    (plain_query whole counts l.r)
