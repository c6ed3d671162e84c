use Rattle.std.proofs.Common.{codes, rules}
use Rattle.std.proofs.lemmas.Slice.Eq.{text_from_reads}
use Rattle.polyover_text.proofs.rule.parse_overlay_rule.Goals as goal

pub returns-in-Subject : goal.returns-in-Subject
returns-in-Subject c = text_from_reads c.args.word.now (codes "Subject") (search rules) (search rules)

pub returns-in-Clip : goal.returns-in-Clip
returns-in-Clip c = text_from_reads c.args.word.now (codes "Clip") (search rules) (search rules)

pub returns-in-Intersect : goal.returns-in-Intersect
returns-in-Intersect c = text_from_reads c.args.word.now (codes "Intersect") (search rules) (search rules)

pub returns-in-Union : goal.returns-in-Union
returns-in-Union c = text_from_reads c.args.word.now (codes "Union") (search rules) (search rules)

pub returns-in-Difference : goal.returns-in-Difference
returns-in-Difference c = text_from_reads c.args.word.now (codes "Difference") (search rules) (search rules)

pub returns-in-InverseDifference : goal.returns-in-InverseDifference
returns-in-InverseDifference c = text_from_reads c.args.word.now (codes "InverseDifference") (search rules)
    (search rules)

pub returns-in-Xor : goal.returns-in-Xor
returns-in-Xor c = text_from_reads c.args.word.now (codes "Xor") (search rules) (search rules)
