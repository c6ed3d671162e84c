-- The builder that is asked gives the shapes and links that become arrays.
use Rattle.polyover_calls.proofs.Hierarchies.{hierarchy_answered}
use Rattle.polyover_calls.proofs.hierarchy.hierarchy_answer.Goals as goal

pub returns : goal.returns
returns g c =
    let q = c.args.asked.now in
    hierarchy_answered g.I.IntNumber.whole g.I.IntNumber.limit q.rule q.fill q.options _ _
    c.in_ok-overlay.overlay.rule c.in_ok-overlay.overlay.fill _ c.in_ok-overlay.ensures _ _ g.I.Wide.WideIntNumber.width
    g.I.WideUInt.UIntNumber.natural _ c.in_ok-hierarchy.hierarchy.links.items _ c.in_ok-hierarchy.ensures.answers
    c.in_ok-hierarchy.ensures.hierarchy c.in_ok-answer.ensures.flattened c.in_ok-answer.ensures.links
