-- What is true exactly where something holds is one.
use Rattle.overlay_plane.specs.Predicates.{IsDisjoint}
use Rattle.overlay_relate.specs.PredicateQueries.{Holds}
use Rattle.overlay_relate.proofs.OneTruth.{one_truth}
use Rattle.overlay_relate.proofs.only_relations.one_answer_of_predicate.Goals as goal

pub returns-clause-predicate : goal.returns-clause-predicate
returns-clause-predicate c = λ p filled es first second a b. one_truth (Holds p filled es) first second a b

pub returns-clause-disjoint : goal.returns-clause-disjoint
returns-clause-disjoint c = λ filled es first second a b. one_truth (IsDisjoint filled es) first second a b
