-- A loop over the edges: each meets the later edges in ends alone, or is the first that does not.
use Rattle.std.proofs.Common.{◌≡◌, ⊎_elim, ◌<◌, ◌≤◌, length, refl, sym, subst, arith}
use Rattle.std.proofs.Math.Nat.{eq-or-lt_of_le}
use Rattle.std.proofs.lemmas.List.{length-map}
use Rattle.overlay_order.specs.Content.{plain_edge, plain_edges}
use Rattle.overlay_pairs.specs.Places.{AreSettledUpTo}
use Rattle.overlay_pairs.specs.Near.{AreNear}
use Rattle.overlay_pairs.proofs.settle.count_settled.Goals as goal

pub is_settled_from-requires-clause-near : goal.is_settled_from-requires-clause-near
is_settled_from-requires-clause-near g c =
    subst (AreNear (plain_edges g.I.IntNumber.whole g.C.EdgeCount.counts c.args.edges.now) c.loop-i.i)
    (sym c.deref.ensures.value) c.in_ok-find_open.ensures.ok

pub loop-i-preserved : goal.loop-i-preserved
loop-i-preserved g c =
    let es = plain_edges g.I.IntNumber.whole g.C.EdgeCount.counts c.args.edges.now in
    let i = c.loop-i.i in
    let here = subst (AreSettledUpTo es i)
    (sym (length-map c.args.edges.now (plain_edge g.I.IntNumber.whole g.C.EdgeCount.counts)))
    (c.if-not-is_settled_from.ensures.0 refl) in
    λ k less. ⊎_elim (λ (same : k ≡ i). subst (λ n. AreSettledUpTo es n (length es)) (sym same) here)
    (λ (before : k < i). c.loop-i.invariant k before)
    (eq-or-lt_of_le (let le : k ≤ i = omega (arith, less) in le))

pub returns-clause-ok : goal.returns-clause-ok
returns-clause-ok g c =
    let count = length-map c.args.edges.now (plain_edge g.I.IntNumber.whole g.C.EdgeCount.counts) in
    record {
      within = omega (arith, count);
      meet = λ k less. c.loop-i.invariant k (omega (arith, less, c.loop-i-test.false));
    }
