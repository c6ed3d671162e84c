-- The step comes closer to the number.
use Rattle.std.proofs.Common.{nat_abs, ◌-ℤ◌}
use Rattle.overlay_tiles.proofs.multiples.+remainder.Given as goal

abbrev pub decreases-remainder : goal.decreases-remainder
decreases-remainder g l = nat_abs (g.I.IntNumber.whole l.number -ℤ g.I.IntNumber.whole l.step)
