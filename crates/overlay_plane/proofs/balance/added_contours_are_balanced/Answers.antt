-- The law is proved in proofs.KeepingBalance.antt.
use Rattle.overlay_plane.proofs.KeepingBalance.{added_contours_are_balanced}
use Rattle.overlay_plane.proofs.balance.added_contours_are_balanced.Goals as goal

pub returns : goal.returns
returns c = added_contours_are_balanced
