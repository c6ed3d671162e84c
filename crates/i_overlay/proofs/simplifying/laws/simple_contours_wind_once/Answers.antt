-- What is left of a simple contour winds as its edges are filled.
use Rattle.i_overlay.proofs.Outcomes.{simple_contours_wind_once}
use Rattle.i_overlay.proofs.simplifying.laws.simple_contours_wind_once.Goals as goal

pub returns : goal.returns
returns c = simple_contours_wind_once
