-- The law is proved in proofs/PredicatesTogether.antt.
use Rattle.overlay_relate.proofs.PredicatesTogether.{empty_is_within_nothing}
use Rattle.overlay_relate.proofs.predicate_laws.empty_is_within_nothing.Goals as goal

pub returns : goal.returns
returns c = empty_is_within_nothing
