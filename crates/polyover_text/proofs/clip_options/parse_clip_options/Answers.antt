use Rattle.polyover_text.proofs.ClipOptionLists.{one_more_set, all_set, none_with_word}
use Rattle.polyover_text.proofs.clip_options.parse_clip_options.Goals as goal

pub returns-in_err-options : goal.returns-in_err-options
returns-in_err-options c =
    rw c.from_residual.ensures
    (none_with_word _ _ _ _ _ c.loop-word.invariant c.in-Some.ensures.steps c.in_err-options.ensures)

pub loop-word-preserved : goal.loop-word-preserved
loop-word-preserved c =
    one_more_set _ _ _ _ _ _ c.loop-word.invariant c.in-Some.ensures.steps c.in_ok-options.ensures

pub returns : goal.returns
returns c = all_set _ _ _ c.loop-word.invariant c.in_default.ensures.steps.0
