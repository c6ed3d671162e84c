-- With groups no contour visits a point twice.
use Rattle.overlay_plane.proofs.KeptContours.{kept_contours_are_simple}
use Rattle.overlay_plane.proofs.kept_contours.kept_contours_are_simple.Goals as goal

pub returns : goal.returns
returns c = kept_contours_are_simple
