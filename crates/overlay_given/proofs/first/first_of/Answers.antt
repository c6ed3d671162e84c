-- The shape passes none of the edges so far, nor this one.
use Rattle.std.proofs.Common.{◌≡◌, ⊎_elim, ◌<◌, ◌≤◌, pos, sym, subst, ◌∙◌, arith, rules}
use Rattle.std.proofs.Math.Nat.{eq-or-lt_of_le}
use Rattle.overlay_geom.specs.Edges.{CountedEdge}
use Rattle.overlay_order.specs.Content.{plain_edge, plain_edges}
use Rattle.overlay_pairs.specs.Places.{IsAt}
use Rattle.overlay_pairs.proofs.Entries.{one_entry, placed_in_mapped}
use Rattle.overlay_given.specs.First.{count_of}
use Rattle.overlay_given.proofs.first.first_of.Goals as goal

pub loop-i-preserved : goal.loop-i-preserved
loop-i-preserved g c = λ k e less at.
    let plain = plain_edge g.I.IntNumber.whole g.C.EdgeCount.counts in
    let es = plain_edges g.I.IntNumber.whole g.C.EdgeCount.counts c.args.edges.now in
    let item = c.index-edges-i.result in
    let zero : c.count_of.result ≡ pos 0 = search rules in
    ⊎_elim (λ (same : k ≡ c.loop-i.i).
    let here = placed_in_mapped plain c.args.edges.now c.loop-i.i item c.loop-i-test.true c.index-edges-i.is in
    let is : plain item ≡ e = one_entry es c.loop-i.i (plain item) e here (subst (λ n. IsAt es n e) same at) in
    subst (λ (f : CountedEdge). count_of c.args.shape f ≡ pos 0) is (sym c.count_of.ensures ∙ zero))
    (λ (before : k < c.loop-i.i). c.loop-i.invariant k e before at)
    (eq-or-lt_of_le (let le : k ≤ c.loop-i.i = omega (arith, less) in le))
