-- The laws are proved in proofs/EndsOnce.antt.
use Rattle.polyover_calls.proofs.EndsOnce.{calls_end_once, results_end_once, shapes_are_prepared_once}
use Rattle.polyover_calls.proofs.only_answers.one_end.Goals as goal

pub returns-clause-calls : goal.returns-clause-calls
returns-clause-calls g c = calls_end_once g.I.IntNumber.whole g.I.IntNumber.limit g.I.Wide.WideIntNumber.width
    g.I.WideUInt.UIntNumber.natural g.met.I.IntNumber.same

pub returns-clause-results : goal.returns-clause-results
returns-clause-results g c = results_end_once g.I.IntNumber.whole g.I.IntNumber.limit g.I.Wide.WideIntNumber.width
    g.I.WideUInt.UIntNumber.natural g.met.I.IntNumber.same

pub returns-clause-prepared : goal.returns-clause-prepared
returns-clause-prepared g c = shapes_are_prepared_once g.I.IntNumber.whole g.I.IntNumber.limit
    g.I.Wide.WideIntNumber.width g.I.WideUInt.UIntNumber.natural g.met.I.IntNumber.same
