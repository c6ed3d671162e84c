-- The laws are proved in proofs/OneExact.antt.
use Rattle.overlay_predicates.proofs.OneExact.{one_exact_answer as of_contents, one_exact_answer_of_paths}
use Rattle.overlay_predicates.proofs.only_relations.one_exact_answer.Goals as goal

pub returns-clause-contents : goal.returns-clause-contents
returns-clause-contents c = of_contents

pub returns-clause-paths : goal.returns-clause-paths
returns-clause-paths c = one_exact_answer_of_paths
