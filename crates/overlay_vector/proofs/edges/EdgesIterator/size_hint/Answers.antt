-- Two points fit in memory.
use Rattle.overlay_scan.proofs.LinesFit.{line_fits}
use Rattle.overlay_vector.proofs.edges.EdgesIterator.size_hint.Goals as goal

pub size_hint-requires-room-Self-Iterator : goal.size_hint-requires-room-Self-Iterator
size_hint-requires-room-Self-Iterator g c = λ κs within.
    line_fits _ _ g.met.I.IntNumber.small.align_bound g.met.I.IntNumber.small.size_bound
