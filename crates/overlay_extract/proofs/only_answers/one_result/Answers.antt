-- The law is proved in proofs/OneOverlay.antt.
use Rattle.overlay_extract.proofs.OneOverlay.{one_result}
use Rattle.overlay_extract.proofs.only_answers.one_result.Goals as goal

pub returns : goal.returns
returns c = one_result
