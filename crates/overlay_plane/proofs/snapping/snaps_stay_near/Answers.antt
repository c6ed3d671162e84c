-- The law is proved in proofs/SnapsNear.antt.
use Rattle.overlay_plane.proofs.SnapsNear.{snaps_stay_near}
use Rattle.overlay_plane.proofs.snapping.snaps_stay_near.Goals as goal

pub returns : goal.returns
returns c = snaps_stay_near
