-- The law is proved in proofs/OneSlicing.antt.
use Rattle.overlay_extract.proofs.OneSlicing.{one_slicing}
use Rattle.overlay_extract.proofs.slicing.only_slices.one_slicing.Goals as goal

pub returns : goal.returns
returns c = one_slicing
