use Rattle.std.proofs.Common.{◌≡◌, length}
use Rattle.polyover_text.specs.Words.{words_left}
use Rattle.polyover_text.proofs.words.WordsIterator.next.Given as goal

abbrev pub invariant-loop-word : goal.invariant-loop-word
invariant-loop-word l = words_left l.self ≡ words_left l.fn.self

abbrev pub decreases-loop-word : goal.decreases-loop-word
decreases-loop-word l = length l.self.rest.now
