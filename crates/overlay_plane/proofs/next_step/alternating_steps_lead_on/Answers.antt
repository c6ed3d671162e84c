-- The law is proved in proofs/NextSteps.antt.
use Rattle.overlay_plane.proofs.NextSteps.{alternating_steps_lead_on}
use Rattle.overlay_plane.proofs.next_step.alternating_steps_lead_on.Goals as goal

pub returns : goal.returns
returns c = alternating_steps_lead_on
