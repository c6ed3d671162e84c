-- The edges so far are passed.
use Rattle.std.proofs.Common.{ℤ, map}
use Rattle.overlay_order.specs.Content.{plain_edges}
use Rattle.overlay_exact.specs.Passed.{plain_passed, ArePassed}
use Rattle.overlay_exact.proofs.meetings.find_met_of.Given as goal

abbrev pub invariant-loop-place : goal.invariant-loop-place
invariant-loop-place g l =
    let es = plain_edges g.I.IntNumber.whole g.C.EdgeCount.counts l.edges in
    (x : ℤ) → ArePassed es l.place x (map (plain_passed g.I.IntNumber.whole) l.passed.items)
