-- The law is proved in proofs/PredicatesTogether.antt.
use Rattle.overlay_relate.proofs.PredicatesTogether.{within_interiors_intersect}
use Rattle.overlay_relate.proofs.predicate_laws.within_interiors_intersect.Goals as goal

pub returns : goal.returns
returns c = within_interiors_intersect
