-- The law is proved in proofs/OneWinding.antt.
use Rattle.overlay_scaled.proofs.OneWinding.{pieces_have_one_winding}
use Rattle.overlay_scaled.proofs.plain.pieces_have_one_winding.Goals as goal

pub returns : goal.returns
returns c = pieces_have_one_winding
