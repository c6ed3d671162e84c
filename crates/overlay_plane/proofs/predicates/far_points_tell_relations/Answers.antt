-- The law is proved in proofs/GivenPredicates.antt.
use Rattle.overlay_plane.proofs.GivenPredicates.{far_points_tell_relations}
use Rattle.overlay_plane.proofs.predicates.far_points_tell_relations.Goals as goal

pub returns : goal.returns
returns c = far_points_tell_relations
