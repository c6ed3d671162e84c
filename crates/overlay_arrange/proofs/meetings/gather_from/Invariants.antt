-- The pairs of the edge and those at the places so far are gathered, and marked.
use Rattle.std.proofs.Common.{take}
use Rattle.overlay_order.specs.Content.{plain_edges}
use Rattle.overlay_pairs.specs.Changed.{AreOpenBefore}
use Rattle.overlay_arrange.specs.Meetings.{plain_meetings, AreGathered}
use Rattle.overlay_arrange.proofs.GatheredMeetings.{IsLookedAt}
use Rattle.overlay_arrange.proofs.OpenPairs.{AreOpenWith}
use Rattle.overlay_arrange.proofs.meetings.gather_from.Given as goal

abbrev pub invariant-loop-k : goal.invariant-loop-k
invariant-loop-k g l =
    let es = plain_edges g.I.IntNumber.whole g.C.EdgeCount.counts l.edges in
    AreGathered es (IsLookedAt l.i (take l.k l.near)) (plain_meetings g.I.IntNumber.whole l.meetings.items)
    × AreOpenBefore es l.i l.is_open.items × AreOpenWith es l.i (take l.k l.near) l.is_open.items
