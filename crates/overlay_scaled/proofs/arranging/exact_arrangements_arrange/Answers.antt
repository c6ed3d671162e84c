-- The law is proved in proofs/ExactArrangements.antt.
use Rattle.overlay_scaled.proofs.ExactArrangements.{exact_arrangements_arrange}
use Rattle.overlay_scaled.proofs.arranging.exact_arrangements_arrange.Goals as goal

pub returns : goal.returns
returns c = exact_arrangements_arrange
