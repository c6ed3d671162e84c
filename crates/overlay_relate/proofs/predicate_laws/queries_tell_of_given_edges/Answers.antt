-- The law is proved in proofs/GivenRelations.antt.
use Rattle.overlay_relate.proofs.GivenRelations.{queries_tell_of_given_edges}
use Rattle.overlay_relate.proofs.predicate_laws.queries_tell_of_given_edges.Goals as goal

pub returns : goal.returns
returns c = queries_tell_of_given_edges
