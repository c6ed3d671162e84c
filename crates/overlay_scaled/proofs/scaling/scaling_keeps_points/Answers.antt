-- The law is proved in proofs/ScaledPoints.antt.
use Rattle.overlay_scaled.proofs.ScaledPoints.{scaling_keeps_points}
use Rattle.overlay_scaled.proofs.scaling.scaling_keeps_points.Goals as goal

pub returns : goal.returns
returns c = scaling_keeps_points
