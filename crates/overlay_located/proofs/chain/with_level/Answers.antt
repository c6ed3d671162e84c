-- One edge more.
use Rattle.std.proofs.Common.{◌∷◌, [], subst, sym, take}
use Rattle.overlay_geom.proofs.Mapped.{mapped_whole}
use Rattle.overlay_order.specs.Content.{plain_edge}
use Rattle.overlay_located.specs.Chains.{plain_link, plain_links, edges_of}
use Rattle.overlay_located.specs.Queries.{plain_query, Adds}
use Rattle.overlay_located.proofs.Chains.{edges_more}
use Rattle.overlay_located.proofs.OpenQueries.{adds_none, adds_more}
use Rattle.overlay_located.proofs.chain.with_level.Goals as goal

pub loop-link-init : goal.loop-link-init
loop-link-init g c = adds_none (plain_query g.I.IntNumber.whole g.C.EdgeCount.counts c.args.q)

pub loop-link-preserved : goal.loop-link-preserved
loop-link-preserved g c =
    let whole = g.I.IntNumber.whole in
    let counts = g.C.EdgeCount.counts in
    let i = c.loop-link.link-index in
    let link = c.link-item.result in
    let q = plain_query whole counts c.args.q in
    let r = plain_query whole counts c.with_through-r.result in
    subst (λ es. Adds es q r)
    (sym (edges_more (plain_link whole counts) c.args.level.now i link c.loop-link-test.true c.link-item.is))
    (adds_more (edges_of (plain_links whole counts (take i c.args.level.now)))
    (plain_edge whole counts link.line.edge ∷ []) q (plain_query whole counts c.loop-link.r) r c.loop-link.invariant
    c.with_through-r.ensures)

pub returns : goal.returns
returns g c =
    let whole = g.I.IntNumber.whole in
    let counts = g.C.EdgeCount.counts in
    subst (λ ms. Adds (edges_of ms) (plain_query whole counts c.args.q) (plain_query whole counts c.loop-link.r))
    (mapped_whole (plain_link whole counts) c.args.level.now c.loop-link.link-index c.loop-link-test.false)
    c.loop-link.invariant
