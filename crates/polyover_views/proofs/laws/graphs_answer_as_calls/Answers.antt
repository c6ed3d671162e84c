-- The law is proved in proofs/AsCalls.antt.
use Rattle.polyover_views.proofs.AsCalls.{graphs_answer_as_calls}
use Rattle.polyover_views.proofs.laws.graphs_answer_as_calls.Goals as goal

pub returns : goal.returns
returns g c = graphs_answer_as_calls g.I.IntNumber.whole g.I.IntNumber.limit g.I.Wide.WideIntNumber.width
    g.I.WideUInt.UIntNumber.natural
