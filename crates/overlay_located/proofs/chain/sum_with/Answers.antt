-- The first edge, or one that the last is under.
use Rattle.std.proofs.Common.{◌≡◌, ◌+◌, ◌-◌, ◌<◌, ◌+ℤ◌, ◌∙◌, sym, ap₂, length, arith, rules, w64, to_z, of_z, to_z-of_z}
use Rattle.std.proofs.lemmas.List.{length-map}
use Rattle.std.proofs.lemmas.Option.{IfSome_then}
use Rattle.overlay_geom.proofs.Mapped.{read_mapped}
use Rattle.overlay_geom.specs.Edges.{subj_of}
use Rattle.overlay_order.specs.Content.{plain_edge}
use Rattle.overlay_located.specs.Chains.{plain_link, plain_links}
use Rattle.overlay_located.proofs.Chains.{chain_begun, chain_grown}
use Rattle.overlay_located.proofs.chain.sum_with.Goals as goal

pub returns-then-chain-eq0 : goal.returns-then-chain-eq0
returns-then-chain-eq0 g c = λ s chain over.
    let whole = g.I.IntNumber.whole in
    let counts = g.C.EdgeCount.counts in
    let e = plain_edge whole counts c.args.line.now.edge in
    let subj = c.subj.ensures in
    let from = c.from-count.ensures in
    let count : to_z w64 (of_z w64 c.from-count.result) ≡ subj_of e = search (rules, to_z-of_z) in
    chain_begun s (plain_links whole counts c.args.chain.now)
    (record { edge = e; sum = to_z w64 (of_z w64 c.from-count.result) }) chain over
    (rw length-map c.if-chain-eq0.true) count

pub returns-then-is_under : goal.returns-then-is_under
returns-then-is_under g c = λ s chain over.
    let whole = g.I.IntNumber.whole in
    let counts = g.C.EdgeCount.counts in
    let e = plain_edge whole counts c.args.line.now.edge in
    let links = c.args.chain.now in
    let last = c.index-chain-chain.result in
    let some = c.if-chain-eq0.false in
    let lt : length links - 1 < length links = first_of (search rules, omega (arith, some)) in
    let longer : length links ≡ (length links - 1) + 1 = first_of (search rules, omega (arith, some, lt)) in
    let under = c.is_under.ensures c.if-is_under.true in
    let subj = c.subj.ensures in
    let from = c.from-count.ensures in
    let count : to_z w64 (of_z w64 c.from-count.result) ≡ subj_of e = search (rules, to_z-of_z) in
    let sum : to_z w64 (of_z w64 last.sum) ≡ last.sum = search (rules, to_z-of_z) in
    let plain = plain_link whole counts in
    IfSome_then c.sum.result c.sum.ensures (λ z is.
    chain_grown s (plain_links whole counts links) (record { edge = e; sum = z }) chain over (length links - 1)
    (plain last) (rw length-map longer)
    (sym (read_mapped plain links (length links - 1) last (plain last) lt c.index-chain-chain.is)) under
    (is ∙ ap₂ (λ a b. a +ℤ b) sum count))
