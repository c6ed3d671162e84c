-- One more edge is changed, or was closed.
use Rattle.std.proofs.Common.{◌≡◌, ◌+◌, length, refl, sym, subst, ap, ◌∙◌, arith}
use Rattle.overlay_order.specs.Content.{plain_edge, plain_edges}
use Rattle.overlay_pairs.specs.Changed.{AreChangedBefore}
use Rattle.overlay_pairs.proofs.ChangedEdges.{changed_more, changed_past}
use Rattle.overlay_pairs.proofs.Entries.{placed_in_mapped}
use Rattle.overlay_pairs.proofs.changed.changed_places.Goals as goal
use Rattle.overlay_pairs.proofs.changed.changed_places.Goals.{then-not-was_closed+in_ok-push, else-not-was_closed}

pub loop-i-preserved : goal.loop-i-preserved
loop-i-preserved g c =
    let plain = plain_edge g.I.IntNumber.whole g.C.EdgeCount.counts in
    let es = plain_edges g.I.IntNumber.whole g.C.EdgeCount.counts c.args.edges.now in
    let before = plain_edges g.I.IntNumber.whole g.C.EdgeCount.counts c.args.before.now in
    let opens = c.args.is_open.now in
    let i = c.loop-i.i in
    let places = c.loop-i.places.items in
    let at_e = placed_in_mapped plain c.args.edges.now i c.index-edges-i.result c.loop-i-test.true
    c.index-edges-i.is in
    elim c.if-not-was_closed.branch [
      | then-not-was_closed+in_ok-push w ↦ subst (AreChangedBefore es before opens (i + 1))
          (sym (ap (λ v. v.items) w.places-is ∙ w.in_ok-push.ensures.items))
          (changed_more es before opens i places c.loop-i.invariant)
      | else-not-was_closed w ↦ subst (λ v. AreChangedBefore es before opens (i + 1) v.items) (sym w.places-is)
          (changed_past es before opens i places (plain c.index-edges-i.result) at_e
          (w.if-not-was_closed.ensures refl) c.loop-i.invariant)
    ]

pub returns : goal.returns
returns g c = record {
  ok = let all : c.loop-i.i ≡ length c.args.edges.now = (let up = c.loop-i.auto.i-end in
      omega (arith, up, c.loop-i-test.false)) in
      subst (λ n. AreChangedBefore (plain_edges g.I.IntNumber.whole g.C.EdgeCount.counts c.args.edges.now)
      (plain_edges g.I.IntNumber.whole g.C.EdgeCount.counts c.args.before.now) c.args.is_open.now n
      c.loop-i.places.items) all c.loop-i.invariant;
}
