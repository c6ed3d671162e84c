-- The law is proved in proofs/SnapsSettle.antt, by that of proofs/MeetingPieces.antt.
use Rattle.overlay_plane.proofs.MeetingPieces.{meeting_steps_pass_pixels}
use Rattle.overlay_plane.proofs.SnapsSettle.{snaps_settle_by}
use Rattle.overlay_plane.proofs.snapping.snaps_settle.Goals as goal

pub returns : goal.returns
returns c = snaps_settle_by meeting_steps_pass_pixels
