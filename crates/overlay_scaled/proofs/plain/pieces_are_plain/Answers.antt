-- The law is proved in proofs/Pieces.antt.
use Rattle.overlay_scaled.proofs.Pieces.{pieces_are_plain}
use Rattle.overlay_scaled.proofs.plain.pieces_are_plain.Goals as goal

pub returns : goal.returns
returns c = pieces_are_plain
