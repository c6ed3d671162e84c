-- The joined edges are the content as contracts see it.
use Rattle.overlay_order.proofs.CarriedEdges.{edges_in-carried, plain_edges-seen}
use Rattle.overlay_arrange.proofs.content.Content.join_runs.Goals as goal

pub returns-clause-ok : goal.returns-clause-ok
returns-clause-ok g c = rw (← c.self.view_is) c.join_runs-joined.ensures.ok

pub returns-clause-content : goal.returns-clause-content
returns-clause-content g c =
    rw (edges_in-carried g.I.IntNumber.whole g.C.EdgeCount.counts c.join_runs-joined.new.edges.items)
    c.join_runs-joined.ensures.content

pub returns-clause-lighter : goal.returns-clause-lighter
returns-clause-lighter g c =
    rw (
      ← plain_edges-seen g.I.IntNumber.whole g.C.EdgeCount.counts c.self.inside.edges.items c.args.self.now
          c.self.view_is,
      edges_in-carried g.I.IntNumber.whole g.C.EdgeCount.counts c.join_runs-joined.new.edges.items,
    )
    c.join_runs-joined.ensures.lighter
