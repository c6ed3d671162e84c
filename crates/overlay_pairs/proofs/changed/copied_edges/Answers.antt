-- One more edge stands at its place.
use Rattle.std.proofs.Common.{◌+◌, [], ◌∷◌, get_or, ap, sym, subst, ◌∙◌, arith}
use Rattle.std.proofs.lemmas.List.{get_or_default, map-append}
use Rattle.overlay_order.specs.Content.{plain_edge, plain_edges}
use Rattle.overlay_pairs.proofs.Entries.{placed_in_mapped}
use Rattle.overlay_pairs.proofs.NearChanged.{all_stand, stand_more, StandUpTo}
use Rattle.overlay_pairs.proofs.changed.copied_edges.Goals as goal

pub loop-k-preserved : goal.loop-k-preserved
loop-k-preserved g c =
    let plain = plain_edge g.I.IntNumber.whole g.C.EdgeCount.counts in
    let es = plain_edges g.I.IntNumber.whole g.C.EdgeCount.counts c.args.edges.now in
    let places = c.args.places.now in
    let k = c.loop-k.k in
    let i = get_or places k 0 in
    let found = c.loop-k.found.items in
    let e = c.index-edges-places.result in
    subst (StandUpTo es places (k + 1))
    (sym (ap (plain_edges g.I.IntNumber.whole g.C.EdgeCount.counts) c.in_ok-push.ensures.items
    ∙ map-append plain found (e ∷ [])))
    (stand_more es places k i (plain_edges g.I.IntNumber.whole g.C.EdgeCount.counts found) (plain e)
    (c.loop-k-test.true, get_or_default places k i 0 c.loop-k-test.true)
    (placed_in_mapped plain c.args.edges.now i e (c.requires k 0 c.loop-k-test.true) c.index-edges-places.is)
    c.loop-k.invariant)

pub returns : goal.returns
returns g c = record {
  ok = all_stand (plain_edges g.I.IntNumber.whole g.C.EdgeCount.counts c.args.edges.now) c.args.places.now c.loop-k.k
      (plain_edges g.I.IntNumber.whole g.C.EdgeCount.counts c.loop-k.found.items)
      (let up = c.loop-k.auto.k-end in omega (arith, up, c.loop-k-test.false)) c.loop-k.invariant;
}
