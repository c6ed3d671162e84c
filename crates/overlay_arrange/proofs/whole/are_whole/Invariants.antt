-- The meetings so far lie on the lines of their edges.
use Rattle.std.proofs.Common.{All, take}
use Rattle.overlay_order.specs.Content.{plain_edges}
use Rattle.overlay_arrange.specs.Meetings.{plain_meetings, IsOnItsLine}
use Rattle.overlay_arrange.proofs.whole.are_whole.Given as goal

abbrev pub invariant-loop-m : goal.invariant-loop-m
invariant-loop-m g l = All (IsOnItsLine (plain_edges g.I.IntNumber.whole g.C.EdgeCount.counts l.edges))
    (plain_meetings g.I.IntNumber.whole (take l.m-index l.meetings))
