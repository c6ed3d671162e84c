-- The law is proved in proofs/CutWalks.antt.
use Rattle.overlay_plane.proofs.CutWalks.{cuts_leave_cuttable}
use Rattle.overlay_plane.proofs.contours.cuts_leave_cuttable.Goals as goal

pub returns : goal.returns
returns c = cuts_leave_cuttable
