-- The law is proved in proofs/OneInsides.antt.
use Rattle.polyover_engine.proofs.OneInsides.{one_text_of_insides}
use Rattle.polyover_engine.proofs.only_texts.one_text_of_insides.Goals as goal

pub returns : goal.returns
returns c = one_text_of_insides
