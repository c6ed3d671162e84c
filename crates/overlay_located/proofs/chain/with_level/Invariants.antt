-- What the edges so far tell is added.
use Rattle.std.proofs.Common.{take}
use Rattle.overlay_located.specs.Chains.{plain_links, edges_of}
use Rattle.overlay_located.specs.Queries.{plain_query, Adds}
use Rattle.overlay_located.proofs.chain.with_level.Given as goal

abbrev pub invariant-loop-link : goal.invariant-loop-link
invariant-loop-link g l =
    let whole = g.I.IntNumber.whole in
    let counts = g.C.EdgeCount.counts in
    Adds (edges_of (plain_links whole counts (take l.link-index l.level))) (plain_query whole counts l.fn.q)
    (plain_query whole counts l.r)
