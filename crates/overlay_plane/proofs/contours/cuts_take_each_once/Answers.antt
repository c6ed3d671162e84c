-- The cut takes each step exactly once.
use Rattle.overlay_plane.proofs.CutWalks.{cuts_take_each_once}
use Rattle.overlay_plane.proofs.contours.cuts_take_each_once.Goals as goal

pub returns : goal.returns
returns c = cuts_take_each_once
