-- One meeting more adds its point, or a point that is there already.
use Rattle.std.proofs.Common.{◌≡◌, ◌+◌, [], ◌∷◌, ◌++◌, List, map, take, ap, sym, subst, ◌∙◌, append_assoc, append-nil}
use Rattle.std.proofs.lemmas.List.{map-append}
use Rattle.overlay_geom.specs.Plane.{Point}
use Rattle.overlay_geom.specs.Points.{plain_point, plain_points}
use Rattle.overlay_geom.proofs.Mapped.{mapped_more, mapped_whole}
use Rattle.overlay_arrange.specs.HotPoints.{HaveSameMembers}
use Rattle.overlay_arrange.specs.Meetings.{plain_meeting, plain_meetings, Meeting}
use Rattle.overlay_arrange.specs.declared.meetings.Meeting.{Meeting as HeldMeeting}
use Rattle.overlay_arrange.proofs.SameMembers.{same_members, same_members-behind}
use Rattle.overlay_arrange.proofs.hot.push_points.Goals as goal

pub loop-i-init : goal.loop-i-init
loop-i-init g c =
    let old = plain_points g.I.IntNumber.whole c.args.points.now.items in
    subst (λ (vs : List Point). HaveSameMembers vs old) (sym (append-nil old)) (same_members old)

pub loop-i-preserved : goal.loop-i-preserved
loop-i-preserved g c =
    let whole = g.I.IntNumber.whole in
    let old = plain_points whole c.args.points.now.items in
    let point = λ (m : Meeting). m.point in
    let before = map point (plain_meetings whole (take c.loop-i.i c.args.meetings.now)) in
    let v = plain_point whole c.index-meetings-i.result.point in
    let more : map point (plain_meetings whole (take (c.loop-i.i + 1) c.args.meetings.now)) ≡ before ++ v ∷ [] =
    ap (map point) (mapped_more (plain_meeting whole) c.args.meetings.now c.loop-i.i c.index-meetings-i.result
    c.loop-i-test.true c.index-meetings-i.is)
    ∙ map-append point (plain_meetings whole (take c.loop-i.i c.args.meetings.now))
    (plain_meeting whole c.index-meetings-i.result ∷ []) in
    subst (λ (vs : List Point). HaveSameMembers vs (plain_points whole c.push_once.new.points.items))
    (append_assoc old before (v ∷ []) ∙ sym (ap (λ (vs : List Point). old ++ vs) more))
    (same_members-behind (old ++ before) (plain_points whole c.loop-i.points.items) (v ∷ [])
    (plain_points whole c.push_once.new.points.items) c.loop-i.invariant
    (subst (λ (m : HeldMeeting _). HaveSameMembers (plain_points whole c.loop-i.points.items
    ++ plain_point whole m.point ∷ []) (plain_points whole c.push_once.new.points.items))
    (sym c.index-meetings-i.is) c.in_ok-push_once.ensures.ok))

pub returns : goal.returns
returns g c = record {
  ok = let whole = g.I.IntNumber.whole in
      let old = plain_points whole c.args.points.now.items in
      subst (λ (ms : List Meeting). HaveSameMembers (old ++ map (λ (m : Meeting). m.point) ms)
      (plain_points whole c.loop-i.points.items))
      (mapped_whole (plain_meeting whole) c.args.meetings.now c.loop-i.i c.loop-i-test.false) c.loop-i.invariant;
}
