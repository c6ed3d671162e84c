-- The parts so far are equal to the first, and the place comes nearer to the end.
use Rattle.std.proofs.Common.{◌-◌, ◌<◌, ◌≤◌, length}
use Rattle.std.specs.List.{AllWithin}
use Rattle.overlay_exact.specs.Along.{plain_mets}
use Rattle.overlay_exact.specs.Parts.{fraction, AreEqual}
use Rattle.overlay_exact.proofs.group.group_end.Given as goal

abbrev pub invariant-loop-end : goal.invariant-loop-end
invariant-loop-end g l =
    let whole = g.I.Wide.WideIntNumber.whole in
    (l.from < l.end) × (l.end ≤ length l.met)
    × AllWithin (λ n. AreEqual (fraction whole l.part.n l.part.d) n.part) (plain_mets whole l.met) l.from l.end

abbrev pub decreases-loop-end : goal.decreases-loop-end
decreases-loop-end g l = length l.met - l.end
