-- The next step is one to one.
use Rattle.overlay_plane.proofs.NextSteps.{next_is_one_to_one}
use Rattle.overlay_plane.proofs.next_step.next_is_one_to_one.Goals as goal

pub returns : goal.returns
returns c = next_is_one_to_one
