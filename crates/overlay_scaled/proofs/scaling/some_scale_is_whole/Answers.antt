-- The law is proved in proofs/WholeScales.antt.
use Rattle.overlay_scaled.proofs.WholeScales.{some_scale_is_whole}
use Rattle.overlay_scaled.proofs.scaling.some_scale_is_whole.Goals as goal

pub returns : goal.returns
returns c = some_scale_is_whole
