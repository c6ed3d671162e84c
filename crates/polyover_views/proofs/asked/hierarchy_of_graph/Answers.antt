-- The shapes and links are those of the graph that is taken.
use Rattle.polyover_views.specs.Held.{graph_of}
use Rattle.polyover_views.proofs.Answering.{hierarchy_answered}
use Rattle.polyover_views.proofs.asked.hierarchy_of_graph.Goals as goal

pub returns : goal.returns
returns g c = hierarchy_answered (graph_of g.I.IntNumber.whole g.E.FormOf.meant c.args.graph.now) c.args.rule
    c.args.options c.in_ok-rule.ensures.0 c.in_ok-settings.ensures.0 g.I.Wide.WideIntNumber.width
    g.I.WideUInt.UIntNumber.natural _ _ _ _ c.in_ok-rule.ensures.1 c.in_ok-taken.ensures.rule
    c.in_ok-settings.ensures.1 c.in_ok-taken.ensures.edges g.I.IntNumber.whole _
    c.in_ok-hierarchy.hierarchy.links.items _ c.in_ok-hierarchy.ensures.hierarchy c.in_ok-answer.ensures.flattened
    c.in_ok-answer.ensures.links
