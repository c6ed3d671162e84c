-- The law is proved in proofs/OneOutcome.antt.
use Rattle.i_overlay.proofs.OneOutcome.{outcomes_are_one}
use Rattle.i_overlay.proofs.simplifying.laws.one_outcome.Goals as goal

pub returns : goal.returns
returns c = outcomes_are_one
