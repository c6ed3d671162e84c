-- The law is proved in proofs/OneTelling.antt.
use Rattle.polyover_exact.proofs.OneTelling.{relations_are_told_once}
use Rattle.polyover_exact.proofs.only_answers.relations_are_told_once.Goals as goal

pub returns : goal.returns
returns g c = relations_are_told_once g.I.IntNumber.whole g.I.IntNumber.limit
