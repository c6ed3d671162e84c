-- The law is proved in proofs/PredicatesTogether.antt.
use Rattle.overlay_relate.proofs.PredicatesTogether.{regions_tell_predicates}
use Rattle.overlay_relate.proofs.predicate_laws.regions_tell_predicates.Goals as goal

pub returns : goal.returns
returns c = regions_tell_predicates
