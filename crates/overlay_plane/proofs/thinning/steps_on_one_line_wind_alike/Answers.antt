-- The law is proved in proofs/StraightOn.antt.
use Rattle.overlay_plane.proofs.StraightOn.{steps_on_one_line_wind_alike}
use Rattle.overlay_plane.proofs.thinning.steps_on_one_line_wind_alike.Goals as goal

pub returns : goal.returns
returns c = steps_on_one_line_wind_alike
