-- The edges of the graph are the content as contracts see it.
use Rattle.overlay_order.proofs.CarriedEdges.{plain_edges-seen}
use Rattle.overlay_arrange.proofs.content.Content.graph.Goals as goal

pub new-requires-clause-ascending : goal.new-requires-clause-ascending
new-requires-clause-ascending g c =
    rw (
      c.deref.ensures.value,
      plain_edges-seen g.I.IntNumber.whole g.C.EdgeCount.counts c.self.inside.edges.items
          c.args.self.now c.self.view_is,
    )
    c.requires.ascending

pub new-requires-clause-settled : goal.new-requires-clause-settled
new-requires-clause-settled g c =
    rw (
      c.deref.ensures.value,
      plain_edges-seen g.I.IntNumber.whole g.C.EdgeCount.counts c.self.inside.edges.items
          c.args.self.now c.self.view_is,
    )
    c.requires.settled
