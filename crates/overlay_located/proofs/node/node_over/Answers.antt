-- The spanning edges are sorted, and a chain takes some of them.
use Rattle.std.proofs.Common.{◌++◌, List, All, sym, ap, subst}
use Rattle.std.proofs.lemmas.List.Sorted.{IsPermutation-map}
use Rattle.overlay_geom.specs.Edges.{CountedEdge}
use Rattle.overlay_located.specs.Slabs.{plain_line, plain_lines, plain_slab, Spans}
use Rattle.overlay_located.specs.Chains.{plain_links, HasChain}
use Rattle.overlay_located.proofs.DividedEdges.{chain_over}
use Rattle.overlay_located.proofs.node.node_over.Goals as goal

pub returns : goal.returns
returns g c =
    let whole = g.I.IntNumber.whole in
    let counts = g.C.EdgeCount.counts in
    let line = plain_line whole counts in
    let lines = plain_lines whole counts in
    let s = plain_slab whole c.args.slab in
    let parts = c.in_ok-parts.parts in
    let sorted = c.sort_by.new.self.items in
    let same = ap lines c.deref.ensures.value in
    chain_over s (lines c.args.lines.now) (lines parts.spanning.items) (lines parts.kept.items) (lines sorted)
    (plain_links whole counts c.in_ok-chain.chain.items) (lines c.chain_of.new.kept.items) c.in_ok-parts.ensures
    (IsPermutation-map line parts.spanning.items sorted c.in_ok-sort_by.ensures.permutation)
    (λ over. subst (λ (es : List CountedEdge). HasChain s (lines parts.kept.items ++ es)
    (plain_links whole counts c.in_ok-chain.chain.items) (lines c.chain_of.new.kept.items)) same
    (c.in_ok-chain.ensures s (subst (λ (es : List CountedEdge). All (Spans s) es) (sym same) over)))
