-- The law is proved in proofs/OneAsking.antt.
use Rattle.polyover_views.proofs.OneAsking.{graphs_answer_once}
use Rattle.polyover_views.proofs.only_answers.graphs_answer_once.Goals as goal

pub returns : goal.returns
returns g c = graphs_answer_once g.I.IntNumber.whole g.I.IntNumber.limit g.I.Wide.WideIntNumber.width
    g.I.WideUInt.UIntNumber.natural g.met.I.IntNumber.same
