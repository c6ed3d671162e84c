-- The pairs with an earlier edge are gathered, and marked.
use Rattle.overlay_order.specs.Content.{plain_edges}
use Rattle.overlay_pairs.specs.Changed.{AreOpenBefore}
use Rattle.overlay_arrange.specs.Meetings.{plain_meetings, AreGathered, HasBefore}
use Rattle.overlay_arrange.proofs.meetings.gather.Given as goal

abbrev pub invariant-loop-i : goal.invariant-loop-i
invariant-loop-i g l =
    let es = plain_edges g.I.IntNumber.whole g.C.EdgeCount.counts l.edges in
    AreGathered es (HasBefore l.i) (plain_meetings g.I.IntNumber.whole l.meetings.items)
    × AreOpenBefore es l.i l.is_open.items
