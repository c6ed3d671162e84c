-- The law is proved in proofs/LeadingOn.antt.
use Rattle.overlay_plane.proofs.LeadingOn.{steps_that_lead_on_have_one_next}
use Rattle.overlay_plane.proofs.next_step.steps_that_lead_on_have_one_next.Goals as goal

pub returns : goal.returns
returns c = steps_that_lead_on_have_one_next
