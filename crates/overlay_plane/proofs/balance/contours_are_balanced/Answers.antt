-- The law is proved in proofs.KeepingBalance.antt.
use Rattle.overlay_plane.proofs.KeepingBalance.{contours_are_balanced}
use Rattle.overlay_plane.proofs.balance.contours_are_balanced.Goals as goal

pub returns : goal.returns
returns c = contours_are_balanced
