-- The laws are proved in proofs/OneAnswer.antt.
use Rattle.overlay_plane.specs.Predicates.{IsDisjoint, Covers}
use Rattle.overlay_relate.specs.PredicateQueries.{Holds}
use Rattle.i_overlay.proofs.OneAnswer.{answered_paths_are_refused_by_memory_alone}
use Rattle.i_overlay.proofs.OneAnswer.{told_paths_are_refused_by_memory_alone}
use Rattle.i_overlay.proofs.only_answers.memory_alone_refuses.Goals as goal

pub returns-clause-answered : goal.returns-clause-answered
returns-clause-answered c = answered_paths_are_refused_by_memory_alone

pub returns-clause-predicates : goal.returns-clause-predicates
returns-clause-predicates c = λ p. told_paths_are_refused_by_memory_alone (Holds p)

pub returns-clause-disjoint : goal.returns-clause-disjoint
returns-clause-disjoint c = told_paths_are_refused_by_memory_alone IsDisjoint

pub returns-clause-covers : goal.returns-clause-covers
returns-clause-covers c = told_paths_are_refused_by_memory_alone Covers
