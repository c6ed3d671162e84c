-- Edges that meet in ends alone need no meetings.
use Rattle.std.proofs.Common.{refl}
use Rattle.overlay_order.specs.Content.{plain_edge}
use Rattle.overlay_arrange.specs.Meetings.{plain_meetings}
use Rattle.overlay_arrange.proofs.LedToEnds.{none_where_settled}
use Rattle.overlay_arrange.proofs.crossing.push_across.Goals as goal

pub returns-then-cross_in_ends-clause-ok : goal.returns-then-cross_in_ends-clause-ok
returns-then-cross_in_ends-clause-ok g c =
    let whole = g.I.IntNumber.whole in
    none_where_settled g.I.IntNumber.limit c.args.i (plain_edge whole g.C.EdgeCount.counts c.args.e.now)
    c.args.j (plain_edge whole g.C.EdgeCount.counts c.args.f.now) c.requires.one c.requires.other
    (c.cross_in_ends.ensures.settles.0 c.if-cross_in_ends.true) (plain_meetings whole c.args.meetings.now.items)

pub returns-then-cross_in_ends-clause-open : goal.returns-then-cross_in_ends-clause-open
returns-then-cross_in_ends-clause-open g c = (λ _. c.cross_in_ends.ensures.settles.0 c.if-cross_in_ends.true, λ _. refl)
