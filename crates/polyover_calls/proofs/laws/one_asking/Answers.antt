-- The law is proved in proofs/Asking.antt.
use Rattle.polyover_calls.proofs.Asking.{askings_are_one}
use Rattle.polyover_calls.proofs.laws.one_asking.Goals as goal

pub returns : goal.returns
returns g c = askings_are_one g.I.IntNumber.whole g.I.IntNumber.limit
