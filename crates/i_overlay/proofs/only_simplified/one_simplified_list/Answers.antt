-- The law is proved in proofs/OneSimplified.antt.
use Rattle.i_overlay.proofs.OneSimplified.{one_simplified_list}
use Rattle.i_overlay.proofs.only_simplified.one_simplified_list.Goals as goal

pub returns : goal.returns
returns c = one_simplified_list
