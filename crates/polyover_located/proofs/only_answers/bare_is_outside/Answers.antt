-- The law is proved in proofs/OneTelling.antt.
use Rattle.polyover_located.proofs.OneTelling.{bare_is_outside}
use Rattle.polyover_located.proofs.only_answers.bare_is_outside.Goals as goal

pub returns : goal.returns
returns c = bare_is_outside
