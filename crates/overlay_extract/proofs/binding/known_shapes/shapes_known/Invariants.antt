-- The numbers are those of the contours so far.
use Rattle.std.proofs.Common.{◌≡◌, map, take}
use Rattle.overlay_extract.proofs.RolesRead.{number_of}
use Rattle.overlay_extract.proofs.binding.known_shapes.shapes_known.Given as goal

abbrev pub invariant-loop-i : goal.invariant-loop-i
invariant-loop-i g l = l.known.items ≡ map number_of (take l.i l.contours)
