-- A walk from place to place comes past it.
use Rattle.overlay_exact.proofs.PlainInPieces.{plain_in_piece}
use Rattle.overlay_exact.proofs.laws.plain_points_lie_in_pieces.Goals as goal

pub returns : goal.returns
returns c es i e ms given p plain = plain_in_piece es i e ms given p plain
