-- The law is proved in proofs/OnePut.antt.
use Rattle.polyover_calls.proofs.OnePut.{one_put}
use Rattle.polyover_calls.proofs.only_puts.one_put.Goals as goal

pub returns-clause-shapes : goal.returns-clause-shapes
returns-clause-shapes g c = λ flat old new newer s t a b. one_put _ _ _ new newer s t a b

pub returns-clause-linked : goal.returns-clause-linked
returns-clause-linked g c = λ flat old new newer s t a b. one_put _ _ _ new newer s t a b

pub returns-clause-paths : goal.returns-clause-paths
returns-clause-paths g c = λ flat old new newer s t a b. one_put _ _ _ new newer s t a b

pub returns-clause-edges : goal.returns-clause-edges
returns-clause-edges g c = λ flat old new newer s t a b. one_put _ _ _ new newer s t a b
