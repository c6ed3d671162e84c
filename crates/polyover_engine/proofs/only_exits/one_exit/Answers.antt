-- The law is proved in proofs/OneExit.antt.
use Rattle.polyover_engine.proofs.OneExit.{one_exit}
use Rattle.polyover_engine.proofs.only_exits.one_exit.Goals as goal

pub returns : goal.returns
returns g c = one_exit _ _ _ _ _
