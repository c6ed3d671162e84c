-- The law is proved in proofs/SettledMeetings.antt.
use Rattle.overlay_plane.proofs.SettledMeetings.{settled_by_meeting_points}
use Rattle.overlay_plane.proofs.meeting.settled_by_meeting_points.Goals as goal

pub returns : goal.returns
returns c = settled_by_meeting_points
