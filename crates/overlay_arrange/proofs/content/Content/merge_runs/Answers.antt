-- The merged edges are the content as contracts see it.
use Rattle.overlay_order.proofs.CarriedEdges.{edges_in-carried, plain_edges-seen}
use Rattle.overlay_arrange.proofs.content.Content.merge_runs.Goals as goal

pub returns-clause-ok : goal.returns-clause-ok
returns-clause-ok g c =
    let whole = g.I.IntNumber.whole in
    let counts = g.C.EdgeCount.counts in
    rw (
      ← plain_edges-seen whole counts c.self.inside.edges.items c.args.self.now c.self.view_is,
      edges_in-carried whole counts c.merge_runs-merged.new.edges.items,
    )
    c.merge_runs-merged.ensures.ok

pub returns-clause-before : goal.returns-clause-before
returns-clause-before g c =
    rw (← plain_edges-seen g.I.IntNumber.whole g.C.EdgeCount.counts c.self.inside.edges.items c.args.self.now
    c.self.view_is) c.self.invariant.content

pub returns-clause-content : goal.returns-clause-content
returns-clause-content g c =
    rw (edges_in-carried g.I.IntNumber.whole g.C.EdgeCount.counts c.merge_runs-merged.new.edges.items)
    c.merge_runs-merged.ensures.content

pub returns-clause-carried : goal.returns-clause-carried
returns-clause-carried g c = rw (← c.self.view_is) c.merge_runs-merged.ensures.carried
