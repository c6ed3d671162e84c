-- The law is proved in proofs/OneAsking.antt.
use Rattle.polyover_views.proofs.OneAsking.{graphs_are_made_once}
use Rattle.polyover_views.proofs.only_answers.graphs_are_made_once.Goals as goal

pub returns : goal.returns
returns g c = graphs_are_made_once g.I.IntNumber.whole g.I.IntNumber.limit
