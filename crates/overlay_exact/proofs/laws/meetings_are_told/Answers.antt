-- Edges of an ascending list differ exactly where their places do.
use Rattle.overlay_exact.proofs.ToldMeetings.{all_told}
use Rattle.overlay_exact.proofs.laws.meetings_are_told.Goals as goal

pub returns : goal.returns
returns c es i e ms up at of = all_told es i e at up ms of
