-- The meetings of the edges are in another order.
use Rattle.std.proofs.lemmas.List.Sorted.{Contains-permutation, IsPermutation-map, IsPermutation-sym}
use Rattle.overlay_order.specs.Content.{plain_edges}
use Rattle.overlay_arrange.specs.Meetings.{plain_meeting, plain_meetings}
use Rattle.overlay_arrange.proofs.GatheredMeetings.{gathered_moved}
use Rattle.overlay_arrange.proofs.meetings.sort_meetings.Goals as goal

pub returns-clause-meetings : goal.returns-clause-meetings
returns-clause-meetings g c =
    let old = plain_meetings g.I.IntNumber.whole c.args.meetings.now.items in
    let new = plain_meetings g.I.IntNumber.whole c.sort_by_place.new.meetings.items in
    let moved = IsPermutation-map (plain_meeting g.I.IntNumber.whole) c.args.meetings.now.items
    c.sort_by_place.new.meetings.items c.sort_by_place.ensures.permutation in
    gathered_moved (plain_edges g.I.IntNumber.whole g.C.EdgeCount.counts c.args.edges.now)
    (λ m at. Contains-permutation old new m moved at)
    (λ m at. Contains-permutation new old m (IsPermutation-sym old new moved) at) c.requires
