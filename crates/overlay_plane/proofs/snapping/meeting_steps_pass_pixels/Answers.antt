-- The law is proved in proofs/MeetingPieces.antt.
use Rattle.overlay_plane.proofs.MeetingPieces.{meeting_steps_pass_pixels}
use Rattle.overlay_plane.proofs.snapping.meeting_steps_pass_pixels.Goals as goal

pub returns : goal.returns
returns c = meeting_steps_pass_pixels
