-- The law is proved in proofs/OneInput.antt.
use Rattle.polyover_text.proofs.OneInput.{one_input}
use Rattle.polyover_text.proofs.one_input.one_input.Goals as goal

pub returns : goal.returns
returns c = one_input
