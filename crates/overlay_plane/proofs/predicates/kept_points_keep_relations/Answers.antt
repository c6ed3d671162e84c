-- The law is proved in proofs/GivenPredicates.antt.
use Rattle.overlay_plane.proofs.GivenPredicates.{kept_points_keep_relations}
use Rattle.overlay_plane.proofs.predicates.kept_points_keep_relations.Goals as goal

pub returns : goal.returns
returns c = kept_points_keep_relations
