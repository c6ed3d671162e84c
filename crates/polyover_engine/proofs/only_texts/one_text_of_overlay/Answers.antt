-- The law is proved in proofs/OneText.antt.
use Rattle.polyover_engine.proofs.OneText.{one_text_of_overlay}
use Rattle.polyover_engine.proofs.only_texts.one_text_of_overlay.Goals as goal

pub returns : goal.returns
returns c = one_text_of_overlay
