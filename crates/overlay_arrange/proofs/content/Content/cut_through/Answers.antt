-- The cut edges are the new content, and the old content is returned.
use Rattle.std.proofs.Common.{sym, subst, List, ◌≤◌}
use Rattle.std.proofs.lemmas.Result.{err_from_is_err_and}
use Rattle.overlay_plane.specs.Carried.{Carried, edges_in}
use Rattle.overlay_plane.specs.CutPoints.{cut_points}
use Rattle.overlay_order.specs.Content.{plain_edges}
use Rattle.overlay_parts.specs.PartedContents.{covered}
use Rattle.overlay_arrange.specs.Meetings.{plain_meetings, AreLedAlong}
use Rattle.overlay_arrange.specs.Parting.{cover_weight, AreJoinedParts}
use Rattle.overlay_arrange.proofs.LedThrough.{meetings_in_range, meetings_lead_along}
use Rattle.overlay_arrange.proofs.content.Content.cut_through.Goals as goal

pub cut_edges-requires-clause-in_range : goal.cut_edges-requires-clause-in_range
cut_edges-requires-clause-in_range g c =
    rw c.deref.ensures.value
    (meetings_in_range g.I.IntNumber.limit (edges_in c.args.self.now) c.edges-2.ensures.content.held
    (plain_meetings g.I.IntNumber.whole c.sort_meetings.new.meetings.items)
    (rw c.edges.ensures.plain at c.sort_meetings.ensures.meetings))

pub returns-clause-ok : goal.returns-clause-ok
returns-clause-ok g c =
    let points = cut_points (edges_in c.args.self.now) in
    let leads : AreLedAlong (plain_edges g.I.IntNumber.whole g.C.EdgeCount.counts c.edges-2.result.now)
    (plain_meetings g.I.IntNumber.whole c.deref.result.now) points =
    rw (c.deref.ensures.value, c.edges-2.ensures.plain)
    (meetings_lead_along g.I.IntNumber.limit (edges_in c.args.self.now) c.edges-2.ensures.content.held
    (plain_meetings g.I.IntNumber.whole c.sort_meetings.new.meetings.items)
    (rw c.edges.ensures.plain at c.sort_meetings.ensures.meetings)) in
    subst (AreJoinedParts g.C.EdgeCount.merges g.C.EdgeCount.splits g.C.EdgeCount.reverses points
    (covered c.args.self.now c.args.hidden.now)) (sym c.replace-before.ensures.after)
    (rw c.edges-2.ensures.edges at (c.in_ok-pieces.ensures.ok points leads))

pub returns-in_err-pieces-clause-too_many : goal.returns-in_err-pieces-clause-too_many
returns-in_err-pieces-clause-too_many g c = λ same.
    let points = cut_points (edges_in c.args.self.now) in
    let leads : AreLedAlong (plain_edges g.I.IntNumber.whole g.C.EdgeCount.counts c.edges-2.result.now)
    (plain_meetings g.I.IntNumber.whole c.deref.result.now) points =
    rw (c.deref.ensures.value, c.edges-2.ensures.plain)
    (meetings_lead_along g.I.IntNumber.limit (edges_in c.args.self.now) c.edges-2.ensures.content.held
    (plain_meetings g.I.IntNumber.whole c.sort_meetings.new.meetings.items)
    (rw c.edges.ensures.plain at c.sort_meetings.ensures.meetings)) in
    let passed = err_from_is_err_and c.from_residual-in_err-pieces.result c.from_residual-in_err-pieces.ensures.1 in
    subst (λ (xs : List (Carried g.row.C.Denot)). 2147483648 ≤ cover_weight points (covered xs c.args.hidden.now))
    c.edges-2.ensures.edges
    (c.in_err-pieces.ensures.too_many (cc) points leads)

pub cut_edges-requires-clause-order : goal.cut_edges-requires-clause-order
cut_edges-requires-clause-order g c = rw c.deref.ensures.value c.in_ok-sort_meetings.ensures.order
