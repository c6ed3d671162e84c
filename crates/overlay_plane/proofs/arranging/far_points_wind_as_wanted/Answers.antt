-- The law is proved in proofs/FarPoints.antt.
use Rattle.overlay_plane.proofs.FarPoints.{far_points_wind_as_wanted}
use Rattle.overlay_plane.proofs.arranging.far_points_wind_as_wanted.Goals as goal

pub returns : goal.returns
returns c = far_points_wind_as_wanted
