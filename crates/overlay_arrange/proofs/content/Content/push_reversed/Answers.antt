-- The edge is added with its counts reversed, which weigh the same.
use Rattle.std.proofs.Math.Nat.{lt_of_not-le}
use Rattle.std.proofs.lemmas.Bool.{false≢true}
use Rattle.overlay_order.proofs.CarriedEdges.{edges_in-carried, plain_edges-seen}
use Rattle.overlay_arrange.proofs.PushedReversed.{pushed_reversed}
use Rattle.overlay_arrange.proofs.content.Content.push_reversed.Goals as goal

pub invariant_of-self-2 : goal.invariant_of-self-2
invariant_of-self-2 g c =
    let light = lt_of_not-le (λ heavy. false≢true (c.if-reaches_limit.ensures.1 heavy)) in
    pushed_reversed g.I.IntNumber.limit g.I.IntNumber.whole g.C.EdgeCount.counts c.self.inside.edges.items
    c.push_reserved.new.self.items c.args.edge c.reversed-count.result c.self.inside.weight c.weight-added.result
    c.self.invariant c.requires.held c.reversed-count.ensures.counts c.weight-added.ensures light
    (rw (← c.in_ok-reserve.ensures.items) c.push_reserved.ensures.items)

pub returns-then-reaches_limit-clause-content : goal.returns-then-reaches_limit-clause-content
returns-then-reaches_limit-clause-content g c =
    rw (← plain_edges-seen g.I.IntNumber.whole g.C.EdgeCount.counts c.self.inside.edges.items c.args.self.now
    c.self.view_is) c.self.invariant.content

pub returns-in_err-reserve-clause-content : goal.returns-in_err-reserve-clause-content
returns-in_err-reserve-clause-content g c =
    rw (
      edges_in-carried g.I.IntNumber.whole g.C.EdgeCount.counts c.reserve.new.self.items,
      c.in_err-reserve.ensures.items,
    )
    c.self.invariant.content

pub returns-clause-content : goal.returns-clause-content
returns-clause-content g c =
    let light = lt_of_not-le (λ heavy. false≢true (c.if-reaches_limit.ensures.1 heavy)) in
    rw (edges_in-carried g.I.IntNumber.whole g.C.EdgeCount.counts c.push_reserved.new.self.items)
    (pushed_reversed g.I.IntNumber.limit g.I.IntNumber.whole g.C.EdgeCount.counts c.self.inside.edges.items
    c.push_reserved.new.self.items c.args.edge c.reversed-count.result c.self.inside.weight c.weight-added.result
    c.self.invariant c.requires.held c.reversed-count.ensures.counts c.weight-added.ensures light
    (rw (← c.in_ok-reserve.ensures.items) c.push_reserved.ensures.items)).content
