use Rattle.std.proofs.Common.{length}
use Rattle.polyover_text.specs.Words.{words_left}
use Rattle.polyover_text.proofs.ClipOptionLists.{HaveSetClip}
use Rattle.polyover_text.proofs.clip_options.parse_clip_options.Given as goal

-- the words so far set the options so far
abbrev pub invariant-loop-word : goal.invariant-loop-word
invariant-loop-word l = HaveSetClip (words_left l.fn.words) l.options (words_left l.words)

abbrev pub decreases-loop-word : goal.decreases-loop-word
decreases-loop-word l = length (words_left l.words)
