-- The law is proved in proofs/ClippedOnce.antt.
use Rattle.overlay_string.proofs.ClippedOnce.{paths_take_each_piece_once}
use Rattle.overlay_string.proofs.laws.paths_take_each_piece_once.Goals as goal

pub returns : goal.returns
returns c = paths_take_each_piece_once
