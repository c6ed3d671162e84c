-- The law is proved in proofs/Asking.antt.
use Rattle.polyover_calls.proofs.Asking.{bare_can_be_asked}
use Rattle.polyover_calls.proofs.laws.bare_can_be_asked.Goals as goal

pub returns : goal.returns
returns c = bare_can_be_asked
