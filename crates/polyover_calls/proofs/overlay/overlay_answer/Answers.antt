-- The shapes of the builder's answer stand in the arrays.
use Rattle.polyover_calls.proofs.Overlays.{overlay_answered}
use Rattle.polyover_calls.proofs.overlay.overlay_answer.Goals as goal

pub returns : goal.returns
returns g c =
    let q = c.args.asked.now in
    overlay_answered g.I.IntNumber.whole g.I.IntNumber.limit q.rule q.fill q.options _ _ _ _ _ c.in_ok-overlay.ensures
    _ g.I.Wide.WideIntNumber.width g.I.WideUInt.UIntNumber.natural _ c.in_ok-flat.ensures.answers
    c.in_ok-answer.ensures.flattened
