-- The edges of the graph are the content as contracts see it, and so are they balanced.
use Rattle.overlay_order.proofs.CarriedEdges.{plain_edges-seen}
use Rattle.overlay_arrange.proofs.content.Content.graph_of_balanced.Goals as goal

pub of_balanced-requires-clause-ascending : goal.of_balanced-requires-clause-ascending
of_balanced-requires-clause-ascending g c =
    rw (
      c.deref.ensures.value,
      plain_edges-seen g.I.IntNumber.whole g.C.EdgeCount.counts c.self.inside.edges.items
          c.args.self.now c.self.view_is,
    )
    c.requires.ascending

pub of_balanced-requires-clause-settled : goal.of_balanced-requires-clause-settled
of_balanced-requires-clause-settled g c =
    rw (
      c.deref.ensures.value,
      plain_edges-seen g.I.IntNumber.whole g.C.EdgeCount.counts c.self.inside.edges.items
          c.args.self.now c.self.view_is,
    )
    c.requires.settled

pub of_balanced-requires-clause-balanced : goal.of_balanced-requires-clause-balanced
of_balanced-requires-clause-balanced g c =
    rw (
      c.deref.ensures.value,
      plain_edges-seen g.I.IntNumber.whole g.C.EdgeCount.counts c.self.inside.edges.items
          c.args.self.now c.self.view_is,
    )
    c.requires.balanced
