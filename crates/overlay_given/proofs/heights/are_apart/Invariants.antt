-- Where none overlaps so far, all heights so far are apart.
use Rattle.std.proofs.Common.{◌≡◌, false}
use Rattle.overlay_given.specs.Heights.{AreApartFrom}
use Rattle.overlay_given.proofs.heights.are_apart.Given as goal

abbrev pub invariant-loop-k : goal.invariant-loop-k
invariant-loop-k g l = l.overlaps ≡ false → AreApartFrom g.I.IntNumber.whole l.own l.heights l.from l.k
