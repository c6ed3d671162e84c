-- The law is proved in proofs/OneOverlay.antt.
use Rattle.overlay_extract.proofs.OneOverlay.{one_list_of_contours}
use Rattle.overlay_extract.proofs.only_answers.one_list_of_contours.Goals as goal

pub returns : goal.returns
returns c = one_list_of_contours
