-- Edges that share an end meet in ends alone; else the place of e by f's line decides.
use Rattle.std.proofs.Common.{refl, sym, ◌∙◌}
use Rattle.std.proofs.lemmas.Bool.{false≢true}
use Rattle.overlay_geom.specs.Edges.{ends_of}
use Rattle.overlay_geom.proofs.Beside.{beside_meet_in_ends}
use Rattle.overlay_geom.proofs.Meeting.{across_decides}
use Rattle.overlay_geom.proofs.OneLine.{meet_in_ends_exchanged}
use Rattle.overlay_geom.proofs.Places.{across_where_not_beside}
use Rattle.overlay_geom.proofs.PointOrder.{Decides-point_lt}
use Rattle.overlay_order.specs.Content.{plain_edge}
use Rattle.overlay_arrange.proofs.SharedEnds.{settled_where_shared}
use Rattle.overlay_arrange.proofs.crossing.cross_in_ends.Goals as goal

pub returns-then-share_end-clause-settles : goal.returns-then-share_end-clause-settles
returns-then-share_end-clause-settles g c = (
  λ yes. settled_where_shared _ _ ((Decides-point_lt _ _).0 c.requires.one.forward)
      ((Decides-point_lt _ _).0 c.requires.other.forward) c.requires.across (sym c.share_end.ensures ∙ yes),
  λ _. c.if-share_end.true,
)

pub returns-in-Beside-clause-settles : goal.returns-in-Beside-clause-settles
returns-in-Beside-clause-settles g c = (
  λ _. meet_in_ends_exchanged _ _
      (beside_meet_in_ends _ _ ((Decides-point_lt _ _).0 c.requires.one.forward) c.in-Beside.ensures),
  λ _. refl,
)

pub returns-in_default : goal.returns-in_default
returns-in_default g c =
    let e = ends_of (plain_edge g.I.IntNumber.whole g.C.EdgeCount.counts c.args.e.now) in
    let f = ends_of (plain_edge g.I.IntNumber.whole g.C.EdgeCount.counts c.args.f.now) in
    let back = across_where_not_beside e f c.place_by.result ((Decides-point_lt f.a f.b).0 c.requires.other.forward)
    c.requires.across c.place_by.ensures c.in_default.not-Beside in
    let decides = across_decides e f c.requires.across back in record {
      settles = (
        λ no. absurd (false≢true no),
        λ settled. sym c.if-share_end.false ∙ c.share_end.ensures ∙ decides.1 settled,
      );
      back = λ _. back;
    }
