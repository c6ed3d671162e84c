-- The law is proved in proofs/PathWindings.antt.
use Rattle.overlay_builder.proofs.PathWindings.{far_from_paths_is_far}
use Rattle.overlay_builder.proofs.path_windings.far_from_paths_is_far.Goals as goal

pub returns : goal.returns
returns c = far_from_paths_is_far
