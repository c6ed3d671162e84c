-- Contours take each step once.
use Rattle.overlay_plane.proofs.KeptContours.{all_contours_take_each_once}
use Rattle.overlay_plane.proofs.kept_contours.all_contours_take_each_once.Goals as goal

pub returns : goal.returns
returns c = all_contours_take_each_once
