-- The laws are proved in proofs/OneRelation.antt.
use Rattle.polyover_exact.proofs.OneRelation.{one_relation_is_told_once, one_exact_relation_of_all}
use Rattle.polyover_exact.proofs.only_answers.one_relation_is_told_once.Goals as goal

pub returns-clause-once : goal.returns-clause-once
returns-clause-once g c = one_relation_is_told_once g.I.IntNumber.whole g.I.IntNumber.limit

pub returns-clause-of_all : goal.returns-clause-of_all
returns-clause-of_all g c = one_exact_relation_of_all g.I.IntNumber.whole g.I.IntNumber.limit
