-- The law is proved in proofs/OneSimplified.antt.
use Rattle.i_overlay.proofs.OneSimplified.{one_simplified}
use Rattle.i_overlay.proofs.only_simplified.one_simplified.Goals as goal

pub returns : goal.returns
returns c = one_simplified
