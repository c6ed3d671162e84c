-- The live entries from the first place on are those from here on.
use Rattle.std.proofs.Common.{◌≡◌, ◌-◌, ◌≤◌, drop}
use Rattle.overlay_scan.specs.HeldEntries.{live_of}
use Rattle.overlay_scan.proofs.search.next_live.Given as goal

abbrev pub invariant-loop-k : goal.invariant-loop-k
invariant-loop-k g l = (l.from ≤ l.k) × (l.k ≤ l.to)
    × (live_of g.I.IntNumber.whole (g.I.IntNumber.whole l.x) (drop l.from l.entries)
    ≡ live_of g.I.IntNumber.whole (g.I.IntNumber.whole l.x) (drop l.k l.entries))

abbrev pub decreases-loop-k : goal.decreases-loop-k
decreases-loop-k g l = l.to - l.k
