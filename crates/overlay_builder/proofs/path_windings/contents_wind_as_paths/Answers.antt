-- The law is proved in proofs/PathWindings.antt.
use Rattle.overlay_builder.proofs.PathWindings.{contents_wind_as_paths}
use Rattle.overlay_builder.proofs.path_windings.contents_wind_as_paths.Goals as goal

pub returns : goal.returns
returns c = contents_wind_as_paths
