-- One line more, in the chain or beside it.
use Rattle.std.proofs.Common.{◌≡◌, ◌+◌, ◌++◌, ◌∷◌, [], ◌∙◌, sym, ap, subst, take, IfSome, rules, w64, to_z, of_z}
use Rattle.std.proofs.Common.{to_z-of_z}
use Rattle.std.proofs.lemmas.List.{map-append}
use Rattle.overlay_geom.proofs.Mapped.{mapped_more, mapped_whole, All-mapped_at}
use Rattle.overlay_located.specs.Slabs.{plain_line, plain_lines, Spans}
use Rattle.overlay_located.specs.Chains.{plain_link, plain_links, IsChain, HasChain}
use Rattle.overlay_located.proofs.Chains.{divided_none, chain_takes_as, chain_leaves_as}
use Rattle.overlay_located.proofs.chain.chain_of.Goals.{in-Some+in_ok-push-in-Some, in-None+in_ok-push-in-None}
use Rattle.overlay_located.proofs.chain.chain_of.Goals as goal

pub loop-line-init : goal.loop-line-init
loop-line-init g c = λ s over.
    let whole = g.I.IntNumber.whole in
    let counts = g.C.EdgeCount.counts in
    let kept = plain_lines whole counts c.args.kept.now.items in
    subst (λ ms. HasChain s (kept ++ []) ms kept)
    (sym (ap (plain_links whole counts) c.new-chain.ensures.items)) (divided_none s kept)

pub loop-line-preserved : goal.loop-line-preserved
loop-line-preserved g c = λ s over.
    let whole = g.I.IntNumber.whole in
    let counts = g.C.EdgeCount.counts in
    let lines = c.args.lines.now in
    let i = c.loop-line.line-index in
    let line = c.line-item.result in
    let e = plain_line whole counts line in
    let first = plain_lines whole counts c.args.kept.now.items in
    let es = plain_lines whole counts (take i lines) in
    let fs = plain_lines whole counts (take (i + 1) lines) in
    let ks = plain_links whole counts c.loop-line.chain.items in
    let kept = plain_lines whole counts c.loop-line.kept.items in
    let ms = plain_links whole counts c.match-sum_with.chain.items in
    let gs = plain_lines whole counts c.match-sum_with.kept.items in
    let was = c.loop-line.invariant s over in
    let longer = mapped_more (plain_line whole counts) lines i line c.loop-line-test.true c.line-item.is in
    let spans = All-mapped_at (Spans s) (plain_line whole counts) lines i line c.loop-line-test.true c.line-item.is
    over in
    elim c.match-sum_with.branch [
      | in-Some+in_ok-push-in-Some w ↦
          let sum = w.in-Some.sum in
          let fits : to_z w64 (of_z w64 sum) ≡ sum = search (rules, to_z-of_z) in
          let before = subst (λ ls. IsChain s (plain_links whole counts ls)) (sym c.deref.ensures.value) was.chain in
          let taken = subst (λ o. IfSome o (λ z. IsChain s (plain_links whole counts c.deref.result.now
          ++ record { edge = e; sum = z } ∷ []))) w.in-Some.is (c.sum_with.ensures s before spans) in
          let chain = subst (λ ls. IsChain s (plain_links whole counts ls ++ record { edge = e; sum = sum } ∷ []))
          c.deref.ensures.value taken in
          subst (λ (v : _). HasChain s (first ++ fs) ms (plain_lines whole counts v.items)) (sym w.kept-is)
          (chain_takes_as s first es fs ks kept was ms (record { edge = e; sum = sum }) longer
          (ap (λ (v : _). plain_links whole counts v.items) w.chain-is
          ∙ ap (plain_links whole counts) w.in_ok-push-in-Some.ensures.items
          ∙ map-append (plain_link whole counts) c.loop-line.chain.items (_ ∷ [])
          ∙ ap (λ y. ks ++ record { edge = e; sum = y } ∷ []) fits) chain)
      | in-None+in_ok-push-in-None w ↦
          subst (λ (v : _). HasChain s (first ++ fs) (plain_links whole counts v.items) gs) (sym w.chain-is)
          (chain_leaves_as s first es fs ks kept was gs e longer
          (ap (λ (v : _). plain_lines whole counts v.items) w.kept-is
          ∙ ap (plain_lines whole counts) w.in_ok-push-in-None.ensures.items
          ∙ map-append (plain_line whole counts) c.loop-line.kept.items (_ ∷ [])))
    ]

pub returns : goal.returns
returns g c = λ s over.
    let whole = g.I.IntNumber.whole in
    let counts = g.C.EdgeCount.counts in
    subst (λ ls. HasChain s (plain_lines whole counts c.args.kept.now.items ++ ls)
    (plain_links whole counts c.loop-line.chain.items) (plain_lines whole counts c.loop-line.kept.items))
    (mapped_whole (plain_line whole counts) c.args.lines.now c.loop-line.line-index c.loop-line-test.false)
    (c.loop-line.invariant s over)
