-- The laws are proved in proofs/OneTelling.antt.
use Rattle.polyover_located.proofs.OneTelling.{prepared_locate_once, askings_are_one}
use Rattle.polyover_located.proofs.only_answers.locations_are_told_once.Goals as goal

pub returns-clause-shapes : goal.returns-clause-shapes
returns-clause-shapes g c = prepared_locate_once g.I.IntNumber.whole g.I.IntNumber.limit

pub returns-clause-asking : goal.returns-clause-asking
returns-clause-asking g c = askings_are_one g.I.IntNumber.whole g.I.IntNumber.limit
