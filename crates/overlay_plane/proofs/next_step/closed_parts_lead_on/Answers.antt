-- The law is proved in proofs/LeadingOn.antt.
use Rattle.overlay_plane.proofs.LeadingOn.{closed_parts_lead_on}
use Rattle.overlay_plane.proofs.next_step.closed_parts_lead_on.Goals as goal

pub returns : goal.returns
returns c = closed_parts_lead_on
