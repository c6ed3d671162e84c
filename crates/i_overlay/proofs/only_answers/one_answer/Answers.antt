-- The laws are proved in proofs/OneAnswer.antt.
use Rattle.i_overlay.proofs.OneAnswer.{one_answer, one_hierarchy, one_list_of_edges, one_simplification}
use Rattle.i_overlay.proofs.OneAnswer.{one_answer_of_each, one_list_of_relations}
use Rattle.i_overlay.proofs.only_answers.one_answer.Goals as goal

pub returns-clause-shapes : goal.returns-clause-shapes
returns-clause-shapes c = one_answer

pub returns-clause-hierarchies : goal.returns-clause-hierarchies
returns-clause-hierarchies c = one_hierarchy

pub returns-clause-edges : goal.returns-clause-edges
returns-clause-edges c = one_list_of_edges

pub returns-clause-simplified : goal.returns-clause-simplified
returns-clause-simplified c = one_simplification

pub returns-clause-predicates : goal.returns-clause-predicates
returns-clause-predicates c = one_answer_of_each

pub returns-clause-relations : goal.returns-clause-relations
returns-clause-relations c = one_list_of_relations
