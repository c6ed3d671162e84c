-- The first edges are left, which are a content.
use Rattle.std.proofs.Common.{take, sym, ap, ◌∙◌}
use Rattle.std.proofs.lemmas.List.{take-map}
use Rattle.overlay_order.specs.Content.{plain_edge, carried_edge, carried_edges}
use Rattle.overlay_arrange.proofs.FirstEdges.{first_seen}
use Rattle.overlay_arrange.proofs.content.Content.truncate.Goals as goal

pub weight_of-self-inside-requires : goal.weight_of-self-inside-requires
weight_of-self-inside-requires g c =
    let left = c.deref.ensures.value ∙ c.truncate.ensures.items in
    (first_seen g.I.IntNumber.limit c.args.count (plain_edge g.I.IntNumber.whole g.C.EdgeCount.counts)
    c.self.inside.edges.items
    c.deref.result.now left c.self.invariant.content).light

pub invariant_of-self : goal.invariant_of-self
invariant_of-self g c =
    let plain = plain_edge g.I.IntNumber.whole g.C.EdgeCount.counts in
    record {
      content = first_seen g.I.IntNumber.limit c.args.count plain c.self.inside.edges.items c.truncate.new.self.items
          c.truncate.ensures.items c.self.invariant.content;
      weighed = rw (← c.deref.ensures.value) c.weight_of-self-inside.ensures;
    }

pub returns : goal.returns
returns g c =
    let whole = g.I.IntNumber.whole in
    let counts = g.C.EdgeCount.counts in
    ap (carried_edges whole counts) c.truncate.ensures.items
    ∙ sym (take-map (carried_edge whole counts) c.args.count c.self.inside.edges.items)
    ∙ ap (take c.args.count) c.self.view_is
