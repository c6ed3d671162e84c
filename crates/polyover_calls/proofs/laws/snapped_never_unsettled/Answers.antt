-- The law is proved in proofs/SnappedCalls.antt.
use Rattle.polyover_calls.proofs.SnappedCalls.{never_unsettled}
use Rattle.polyover_calls.proofs.laws.snapped_never_unsettled.Goals as goal

pub returns : goal.returns
returns c = never_unsettled
