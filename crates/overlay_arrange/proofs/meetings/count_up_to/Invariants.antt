-- The meetings so far come up to i, and the place comes nearer to their end.
use Rattle.std.proofs.Common.{◌≡◌, ◌-◌, ◌≤◌, true, nat_le, length}
use Rattle.std.specs.List.{AllWithin}
use Rattle.overlay_arrange.proofs.meetings.count_up_to.Given as goal

abbrev pub invariant-loop-high : goal.invariant-loop-high
invariant-loop-high g l =
    (l.high ≤ length l.meetings) × AllWithin (λ m. nat_le m.place l.i ≡ true) l.meetings 0 l.high

abbrev pub decreases-loop-high : goal.decreases-loop-high
decreases-loop-high g l = length l.meetings - l.high
