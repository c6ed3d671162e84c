-- The lines so far, and those that were kept, are divided.
use Rattle.std.proofs.Common.{◌++◌, take}
use Rattle.std.specs.List.{All}
use Rattle.overlay_located.specs.Slabs.{plain_lines, Band, Spans}
use Rattle.overlay_located.specs.Chains.{plain_links, HasChain}
use Rattle.overlay_located.proofs.chain.chain_of.Given as goal

abbrev pub invariant-loop-line : goal.invariant-loop-line
invariant-loop-line g l =
    let whole = g.I.IntNumber.whole in
    let counts = g.C.EdgeCount.counts in
    (s : Band) → All (Spans s) (plain_lines whole counts l.lines) →
    HasChain s (plain_lines whole counts l.initial.kept.items ++ plain_lines whole counts (take l.line-index l.lines))
    (plain_links whole counts l.chain.items) (plain_lines whole counts l.kept.items)
