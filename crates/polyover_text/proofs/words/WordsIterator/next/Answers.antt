use Rattle.std.proofs.Common.{sym, ◌∙◌}
use Rattle.polyover_text.proofs.NextWord.{empty_word_passed, first_word, only_word}
use Rattle.polyover_text.proofs.words.WordsIterator.next.Goals as goal

pub loop-word-preserved : goal.loop-word-preserved
loop-word-preserved c =
    empty_word_passed c.loop-word.self.rest.now c.in-Some.word.now c.in-Some.rest.now c.in-Some.ensures.parts
    c.if-not-is_empty.ensures ∙ c.loop-word.invariant

pub returns-then-not-is_empty-clause-steps : goal.returns-then-not-is_empty-clause-steps
returns-then-not-is_empty-clause-steps c =
    sym c.loop-word.invariant
    ∙ first_word c.loop-word.self.rest.now c.in-Some.word.now c.in-Some.rest.now c.in-Some.ensures.parts
    c.if-not-is_empty.ensures

pub returns-clause-steps : goal.returns-clause-steps
returns-clause-steps c =
    only_word c.args.self.now c.loop-word.self.rest c.is_empty-2.result c.then_some.result (sym c.loop-word.invariant)
    c.in_default.ensures.parts
    c.is_empty-2.ensures c.then_some.ensures
