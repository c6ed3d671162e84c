-- The law is proved in proofs/PredicatesTogether.antt.
use Rattle.overlay_relate.proofs.PredicatesTogether.{covers_is_within_exchanged}
use Rattle.overlay_relate.proofs.predicate_laws.covers_is_within_exchanged.Goals as goal

pub returns : goal.returns
returns c = covers_is_within_exchanged
