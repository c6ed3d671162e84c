-- The edges with the added one are a content, and so are those before.
use Rattle.std.proofs.Common.{refl}
use Rattle.std.proofs.Math.Nat.{lt_of_not-le}
use Rattle.std.proofs.lemmas.Bool.{false≢true}
use Rattle.overlay_order.proofs.CarriedEdges.{edges_in-carried, plain_edges-seen}
use Rattle.overlay_arrange.proofs.PushedReversed.{pushed}
use Rattle.overlay_arrange.proofs.content.Content.push.Goals as goal

pub returns-then-reaches_limit-clause-content : goal.returns-then-reaches_limit-clause-content
returns-then-reaches_limit-clause-content g c =
    rw (← plain_edges-seen g.I.IntNumber.whole g.C.EdgeCount.counts c.self.inside.edges.items c.args.self.now
    c.self.view_is) c.self.invariant.content

pub returns-in_err-push-clause-content : goal.returns-in_err-push-clause-content
returns-in_err-push-clause-content g c =
    rw (edges_in-carried g.I.IntNumber.whole g.C.EdgeCount.counts c.push.new.self.items, c.in_err-push.ensures.items)
    c.self.invariant.content

pub returns-clause-content : goal.returns-clause-content
returns-clause-content g c =
    let light = lt_of_not-le (λ heavy. false≢true (c.if-reaches_limit.ensures.1 heavy)) in
    rw (edges_in-carried g.I.IntNumber.whole g.C.EdgeCount.counts c.push.new.self.items)
    (pushed g.I.IntNumber.limit g.I.IntNumber.whole g.C.EdgeCount.counts c.self.inside.edges.items
    c.push.new.self.items c.args.edge c.args.edge.count c.self.inside.weight c.weight-added.result c.self.invariant
    c.requires.held refl c.weight-added.ensures light c.in_ok-push.ensures.items).content
