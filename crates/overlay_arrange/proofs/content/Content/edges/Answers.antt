-- The counted edges of the content are those of the list that is given out.
use Rattle.std.proofs.Common.{ap, ◌∙◌}
use Rattle.overlay_order.specs.Content.{plain_edges}
use Rattle.overlay_order.proofs.CarriedEdges.{plain_edges-seen}
use Rattle.overlay_arrange.proofs.content.Content.edges.Goals as goal

pub returns-clause-plain : goal.returns-clause-plain
returns-clause-plain g c =
    ap (plain_edges g.I.IntNumber.whole g.C.EdgeCount.counts) c.deref.ensures.value
    ∙ plain_edges-seen g.I.IntNumber.whole g.C.EdgeCount.counts c.self.inside.edges.items c.args.self.now c.self.view_is

pub returns-clause-content : goal.returns-clause-content
returns-clause-content g c =
    rw (← plain_edges-seen g.I.IntNumber.whole g.C.EdgeCount.counts c.self.inside.edges.items c.args.self.now
    c.self.view_is) c.self.invariant.content
