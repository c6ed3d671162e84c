-- The law is proved in proofs/ExactPaths.antt.
use Rattle.overlay_predicates.proofs.ExactPaths.{contents_tell_of_paths as proved}
use Rattle.overlay_predicates.proofs.laws.contents_tell_of_paths.Goals as goal

pub returns : goal.returns
returns c = proved
