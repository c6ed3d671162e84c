-- The denominators fall.
use Rattle.std.proofs.Common.{◌+◌}
use Rattle.overlay_exact.proofs.fraction.+by_quotients.Given as goal

abbrev pub decreases-compare_fractions : goal.decreases-compare_fractions
decreases-compare_fractions l = l.d + l.c

abbrev pub decreases-compare_rests : goal.decreases-compare_rests
decreases-compare_rests l = l.r + l.t + 1
