-- The law is proved in proofs/GivenPredicates.antt.
use Rattle.overlay_plane.proofs.GivenPredicates.{off_is_far_by_nothing}
use Rattle.overlay_plane.proofs.predicates.off_is_far_by_nothing.Goals as goal

pub returns : goal.returns
returns c = off_is_far_by_nothing
