-- The steps so far from the first one that leaves the point or a larger one are taken.
use Rattle.std.proofs.Common.{◌≡◌, true}
use Rattle.std.specs.List.{AllWithin}
use Rattle.overlay_string.proofs.FirstPieces.{is_marked}
use Rattle.overlay_string.proofs.by_start.first_open_from.Given as goal

abbrev pub invariant-loop-i : goal.invariant-loop-i
invariant-loop-i g l = AllWithin (λ t. is_marked l.taken t ≡ true) l.steps l.low l.i
