-- The laws are proved in proofs/PathRelations.antt and proofs/PathClosures.antt.
use Rattle.overlay_relate.proofs.PathClosures.{arrangements_tell_of_path_closures}
use Rattle.overlay_relate.proofs.PathRelations.{arrangements_tell_of_paths}
use Rattle.overlay_relate.proofs.predicate_laws.arrangements_tell_of_paths.Goals as goal

pub returns-clause-interiors : goal.returns-clause-interiors
returns-clause-interiors c = arrangements_tell_of_paths

pub returns-clause-closures : goal.returns-clause-closures
returns-clause-closures c = arrangements_tell_of_path_closures
