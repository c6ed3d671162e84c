-- Edges meet nowhere if one lies beside the other's line.
use Rattle.std.proofs.Common.{refl}
use Rattle.overlay_geom.specs.Edges.{ends_of}
use Rattle.overlay_geom.proofs.Beside.{beside_meet_in_ends}
use Rattle.overlay_geom.proofs.PointOrder.{Decides-point_lt}
use Rattle.overlay_order.specs.Content.{plain_edge}
use Rattle.overlay_arrange.specs.Meetings.{plain_meetings}
use Rattle.overlay_arrange.proofs.LedToEnds.{none_where_settled}
use Rattle.overlay_arrange.proofs.crossing.push_meetings.Goals as goal

pub returns-in-Beside-clause-ok : goal.returns-in-Beside-clause-ok
returns-in-Beside-clause-ok g c =
    let whole = g.I.IntNumber.whole in
    let e = plain_edge whole g.C.EdgeCount.counts c.args.e.now in
    let f = plain_edge whole g.C.EdgeCount.counts c.args.f.now in
    none_where_settled g.I.IntNumber.limit c.args.i e c.args.j f c.requires.one c.requires.other
    (beside_meet_in_ends (ends_of e) (ends_of f) ((Decides-point_lt f.a f.b).0 c.requires.other.forward)
    c.in-Beside.ensures)
    (plain_meetings whole c.args.meetings.now.items)

pub returns-in-Beside-clause-open : goal.returns-in-Beside-clause-open
returns-in-Beside-clause-open g c =
    let plain = plain_edge g.I.IntNumber.whole g.C.EdgeCount.counts in
    let e = plain c.args.e.now in
    let f = plain c.args.f.now in (
      λ _. beside_meet_in_ends (ends_of e) (ends_of f) ((Decides-point_lt f.a f.b).0 c.requires.other.forward)
          c.in-Beside.ensures,
      λ _. refl,
    )
