-- The windings at the start and the points met are those of the edge.
use Rattle.std.proofs.Common.{sym, subst}
use Rattle.overlay_geom.proofs.Mapped.{All-mapped_at}
use Rattle.overlay_geom.specs.Rules.{is_filled}
use Rattle.overlay_order.specs.Content.{plain_edge, plain_edges, IsHeld}
use Rattle.overlay_pairs.proofs.Entries.{one_entry, placed_in_mapped}
use Rattle.overlay_exact.specs.AllMet.{AreMetOf}
use Rattle.overlay_exact.specs.Along.{plain_mets}
use Rattle.overlay_given.specs.Walk.{AddsSides, WindsAtStart}
use Rattle.overlay_given.proofs.one_edge.sides_on.Goals as goal

pub windings_at_start-start-requires-clause-edge : goal.windings_at_start-start-requires-clause-edge
windings_at_start-start-requires-clause-edge g c =
    All-mapped_at (IsHeld g.I.IntNumber.limit) (plain_edge g.I.IntNumber.whole g.C.EdgeCount.counts) c.args.edges.now
    c.args.i c.index-edges-i.result c.requires.within c.index-edges-i.is c.requires.held

pub push_sides-requires-clause-start : goal.push_sides-requires-clause-start
push_sides-requires-clause-start g c = λ e at.
    let plain = plain_edge g.I.IntNumber.whole g.C.EdgeCount.counts in
    let es = plain_edges g.I.IntNumber.whole g.C.EdgeCount.counts c.args.edges.now in
    let here = placed_in_mapped plain c.args.edges.now c.args.i c.index-edges-i.result c.requires.within
    c.index-edges-i.is in
    subst (λ f. WindsAtStart es f c.windings_at_start-start.result)
    (one_entry es c.args.i (plain c.index-edges-i.result) e here at) c.windings_at_start-start.ensures.winds

pub push_sides-requires-clause-met : goal.push_sides-requires-clause-met
push_sides-requires-clause-met g c = λ e at.
    let es = plain_edges g.I.IntNumber.whole g.C.EdgeCount.counts c.args.edges.now in
    subst (λ ms. AreMetOf es c.args.i e (plain_mets g.I.Wide.WideIntNumber.whole ms)) (sym c.deref.ensures.value)
    (c.in_ok-met.ensures.ok e at)

pub returns : goal.returns
returns g c = record {
  ok = λ e at.
      let es = plain_edges g.I.IntNumber.whole g.C.EdgeCount.counts c.args.edges.now in
      subst (λ xs. AddsSides (is_filled c.args.rule) es e xs c.push_sides.new.pieces.items)
      c.new-pieces.ensures.items (c.in_ok-push_sides.ensures.pieces e at);
}
