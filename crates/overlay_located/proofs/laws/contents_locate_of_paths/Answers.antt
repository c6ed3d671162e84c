-- The law is proved in proofs/LocatedPaths.antt.
use Rattle.overlay_located.proofs.LocatedPaths.{contents_locate_of_paths as located}
use Rattle.overlay_located.proofs.laws.contents_locate_of_paths.Goals as goal

pub returns : goal.returns
returns c = located
