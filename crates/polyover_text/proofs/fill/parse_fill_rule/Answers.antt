use Rattle.std.proofs.Common.{codes, rules}
use Rattle.std.proofs.lemmas.Slice.Eq.{text_from_reads}
use Rattle.polyover_text.proofs.fill.parse_fill_rule.Goals as goal

pub returns-in-EvenOdd : goal.returns-in-EvenOdd
returns-in-EvenOdd c = text_from_reads c.args.word.now (codes "EvenOdd") (search rules) (search rules)

pub returns-in-NonZero : goal.returns-in-NonZero
returns-in-NonZero c = text_from_reads c.args.word.now (codes "NonZero") (search rules) (search rules)

pub returns-in-Positive : goal.returns-in-Positive
returns-in-Positive c = text_from_reads c.args.word.now (codes "Positive") (search rules) (search rules)

pub returns-in-Negative : goal.returns-in-Negative
returns-in-Negative c = text_from_reads c.args.word.now (codes "Negative") (search rules) (search rules)
