-- None of the pieces so far is open.
use Rattle.std.proofs.Common.{◌≡◌, []}
use Rattle.overlay_string.specs.OpenPlaces.{open_before}
use Rattle.overlay_string.specs.Pieces.{plain_pieces}
use Rattle.overlay_string.proofs.open_pieces.first_open.Given as goal

abbrev pub invariant-loop-place : goal.invariant-loop-place
invariant-loop-place g l = open_before (plain_pieces g.I.IntNumber.whole l.pieces) l.taken l.place ≡ []
