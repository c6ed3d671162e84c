-- The law is proved in proofs/ClippedOnce.antt.
use Rattle.overlay_string.proofs.ClippedOnce.{each_piece_is_clipped_once}
use Rattle.overlay_string.proofs.laws.each_piece_is_clipped_once.Goals as goal

pub returns : goal.returns
returns c = each_piece_is_clipped_once
