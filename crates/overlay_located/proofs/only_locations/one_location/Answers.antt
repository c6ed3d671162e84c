-- The laws are proved in proofs/OneLocation.antt.
use Rattle.overlay_located.proofs.OneLocation.{one_location as of_contents, one_location_in_paths}
use Rattle.overlay_located.proofs.only_locations.one_location.Goals as goal

pub returns-clause-contents : goal.returns-clause-contents
returns-clause-contents c = of_contents

pub returns-clause-paths : goal.returns-clause-paths
returns-clause-paths c = one_location_in_paths
