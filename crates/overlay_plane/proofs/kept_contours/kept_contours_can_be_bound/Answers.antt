-- Kept contours can be bound.
use Rattle.overlay_plane.proofs.KeptContours.{kept_contours_can_be_bound}
use Rattle.overlay_plane.proofs.kept_contours.kept_contours_can_be_bound.Goals as goal

pub returns : goal.returns
returns c = kept_contours_can_be_bound
