-- The law is proved in proofs/PredicatesTogether.antt.
use Rattle.overlay_relate.proofs.PredicatesTogether.{disjoint_is_no_intersection}
use Rattle.overlay_relate.proofs.predicate_laws.disjoint_is_no_intersection.Goals as goal

pub returns : goal.returns
returns c = disjoint_is_no_intersection
