-- The law is proved in proofs/AlongPieces.antt.
use Rattle.overlay_scaled.proofs.AlongPieces.{counts_along_pieces}
use Rattle.overlay_scaled.proofs.beside.counts_along_pieces.Goals as goal

pub returns : goal.returns
returns c = counts_along_pieces
