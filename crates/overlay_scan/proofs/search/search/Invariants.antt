-- The entries before the lower bound pass, and those from the higher bound on fail.
use Rattle.std.proofs.Common.{◌-◌}
use Rattle.overlay_scan.specs.Searches.{IsBetween}
use Rattle.overlay_scan.proofs.search.search.Given as goal

abbrev pub invariant-loop-bounds : goal.invariant-loop-bounds
invariant-loop-bounds g l = IsBetween g.I.IntNumber.whole (goal.F-post g l.order) (g.I.IntNumber.whole l.x) l.entries
    l.bounds.low l.bounds.high

abbrev pub decreases-loop-bounds : goal.decreases-loop-bounds
decreases-loop-bounds g l = l.bounds.high - l.bounds.low
