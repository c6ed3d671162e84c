-- The law is proved in proofs/OneTelling.antt.
use Rattle.polyover_simple.proofs.OneTelling.{shapes_are_told_once}
use Rattle.polyover_simple.proofs.only_answers.shapes_are_told_once.Goals as goal

pub returns : goal.returns
returns g c = shapes_are_told_once g.I.IntNumber.whole g.I.IntNumber.limit g.I.Wide.WideIntNumber.width
    g.I.WideUInt.UIntNumber.natural g.met.I.IntNumber.same
