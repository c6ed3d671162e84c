-- The law is proved in proofs/PredicatesTogether.antt.
use Rattle.overlay_relate.proofs.PredicatesTogether.{point_intersects_touches}
use Rattle.overlay_relate.proofs.predicate_laws.point_intersects_touches.Goals as goal

pub returns : goal.returns
returns c = point_intersects_touches
