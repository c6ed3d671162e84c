-- The laws are proved in proofs/PathAnswers.antt.
use Rattle.i_overlay.proofs.PathAnswers.{answers_tell_of_paths, all_relations_tell_of_paths}
use Rattle.i_overlay.proofs.relation_laws.answers_tell_of_paths.Goals as goal

pub returns-clause-one : goal.returns-clause-one
returns-clause-one c = answers_tell_of_paths

pub returns-clause-all : goal.returns-clause-all
returns-clause-all c = all_relations_tell_of_paths
