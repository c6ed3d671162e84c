-- Two would wind twice.
use Rattle.overlay_plane.proofs.NoTwoShapes.{no_two_wind_round_one_point}
use Rattle.overlay_plane.proofs.shapes_alone.no_two_wind_round_one_point.Goals as goal

pub returns : goal.returns
returns c = no_two_wind_round_one_point
