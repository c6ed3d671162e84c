use Rattle.polyover_text.proofs.Commands.{overlay_named}
use Rattle.polyover_text.proofs.command.parse_overlay.Goals as goal

pub returns : goal.returns
returns c =
    overlay_named _ _ _ _ _ _ c.in_ok-next.ensures.steps c.in_ok-next-2.ensures.steps
    c.in_ok-overlay_rule.ensures c.in_ok-fill_rule.ensures c.in_ok-output.ensures
