-- The law is proved in proofs/ExactArrangements.antt.
use Rattle.overlay_scaled.proofs.ExactArrangements.{merging_keeps_points_off}
use Rattle.overlay_scaled.proofs.arranging.merging_keeps_points_off.Goals as goal

pub returns : goal.returns
returns c = merging_keeps_points_off
