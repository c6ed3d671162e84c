-- What was gathered are the meetings.
use Rattle.std.proofs.Common.{subst}
use Rattle.std.specs.Prelude.{IfSome}
use Rattle.overlay_pairs.specs.Changed.{AreOpenIn}
use Rattle.overlay_plane.specs.Carried.{edges_in}
use Rattle.overlay_arrange.specs.Meetings.{plain_meetings, AreMeetings}
use Rattle.overlay_arrange.proofs.FoundValues.{ok_where_some}
use Rattle.overlay_arrange.proofs.content.Content.all_meetings.Goals as goal

pub returns-clause-meetings : goal.returns-clause-meetings
returns-clause-meetings g c =
    let whole = g.I.IntNumber.whole in
    ok_where_some (λ m. AreMeetings (edges_in c.args.self.now) (plain_meetings whole m.0.items)) _ c.ok_or.result
    c.ok_or.ensures.ok_part
    (subst (λ es. IfSome c.in_ok-gathered.gathered (λ m. AreMeetings es (plain_meetings whole m.0.items)))
    c.edges-edges.ensures.plain c.in_ok-gathered.ensures.ok)

pub returns-clause-open : goal.returns-clause-open
returns-clause-open g c =
    ok_where_some (λ m. AreOpenIn (edges_in c.args.self.now) m.1.items) _ c.ok_or.result c.ok_or.ensures.ok_part
    (subst (λ es. IfSome c.in_ok-gathered.gathered (λ m. AreOpenIn es m.1.items)) c.edges-edges.ensures.plain
    c.in_ok-gathered.ensures.open)
