use Rattle.polyover_text.proofs.Commands.{clip_named}
use Rattle.polyover_text.proofs.command.parse_clip.Goals as goal

pub returns : goal.returns
returns c = clip_named _ _ _ _ c.in_ok-next.ensures.steps c.in_ok-fill_rule.ensures c.in_ok-options.ensures
