-- Each contour of a cut with groups is inside a group.
use Rattle.overlay_plane.proofs.GroupedCuts.{contours_are_inside_groups}
use Rattle.overlay_plane.proofs.groups.contours_are_inside_groups.Goals as goal

pub returns : goal.returns
returns c = contours_are_inside_groups
