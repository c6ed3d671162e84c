-- The law is proved in proofs/PredicatesTogether.antt.
use Rattle.overlay_relate.proofs.PredicatesTogether.{touches_is_intersects_alone}
use Rattle.overlay_relate.proofs.predicate_laws.touches_is_intersects_alone.Goals as goal

pub returns : goal.returns
returns c = touches_is_intersects_alone
