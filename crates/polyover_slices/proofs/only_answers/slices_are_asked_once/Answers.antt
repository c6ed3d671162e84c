-- The law is proved in proofs/OneAsking.antt.
use Rattle.polyover_slices.proofs.OneAsking.{slices_are_asked_once}
use Rattle.polyover_slices.proofs.only_answers.slices_are_asked_once.Goals as goal

pub returns : goal.returns
returns g c = slices_are_asked_once g.I.IntNumber.whole g.I.IntNumber.limit g.I.Wide.WideIntNumber.width
    g.I.WideUInt.UIntNumber.natural g.met.I.IntNumber.same
