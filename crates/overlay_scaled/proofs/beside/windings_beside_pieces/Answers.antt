-- The law is proved in proofs/BesidePieces.antt.
use Rattle.overlay_scaled.proofs.BesidePieces.{windings_beside_pieces}
use Rattle.overlay_scaled.proofs.beside.windings_beside_pieces.Goals as goal

pub returns : goal.returns
returns c = windings_beside_pieces
