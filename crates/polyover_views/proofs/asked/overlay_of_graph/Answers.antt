-- The shapes are those of the graph that is taken.
use Rattle.polyover_views.specs.Held.{graph_of}
use Rattle.polyover_views.proofs.Answering.{overlay_answered}
use Rattle.polyover_views.proofs.asked.overlay_of_graph.Goals as goal

pub returns : goal.returns
returns g c = overlay_answered (graph_of g.I.IntNumber.whole g.E.FormOf.meant c.args.graph.now) c.args.rule
    c.args.options c.in_ok-rule.ensures.0 c.in_ok-settings.ensures.0 g.I.Wide.WideIntNumber.width
    g.I.WideUInt.UIntNumber.natural _ _ _ _ c.in_ok-rule.ensures.1 c.in_ok-taken.ensures.rule
    c.in_ok-settings.ensures.1 c.in_ok-taken.ensures.edges g.I.IntNumber.whole _ _ c.in_ok-flat.ensures.result
    c.in_ok-answer.ensures.flattened
