-- The law is proved in proofs/PredicatesTogether.antt.
use Rattle.overlay_relate.proofs.PredicatesTogether.{nothing_holds_without_edges}
use Rattle.overlay_relate.proofs.predicate_laws.nothing_holds_without_edges.Goals as goal

pub returns : goal.returns
returns c = nothing_holds_without_edges
