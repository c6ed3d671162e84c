-- The law is proved in proofs/OneAdding.antt.
use Rattle.overlay_builder.proofs.OneAdding.{one_adding}
use Rattle.overlay_builder.proofs.only_contents.one_adding.Goals as goal

pub returns : goal.returns
returns c = one_adding
