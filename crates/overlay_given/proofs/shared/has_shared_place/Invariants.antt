-- No edge so far has a shared place.
use Rattle.std.proofs.Common.{ℕ, ◌+◌, ◌-◌, ◌<◌, ◌≤◌, length}
use Rattle.overlay_exact.specs.Along.{plain_mets}
use Rattle.overlay_given.specs.Places.{SharesOn}
use Rattle.overlay_given.proofs.shared.has_shared_place.Given as goal

abbrev pub invariant-loop-end : goal.invariant-loop-end
invariant-loop-end g l = record {
  some : 1 ≤ l.end;
  none : (i : ℕ) → (i + 1) < l.end →
      ¬ (SharesOn l.starts (plain_mets g.W.WideIntNumber.whole l.met) l.places i);
}

abbrev pub decreases-loop-end : goal.decreases-loop-end
decreases-loop-end g l = length l.starts - l.end
