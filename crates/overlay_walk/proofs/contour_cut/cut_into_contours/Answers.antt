-- Each walk is the orbit of the start of the rest, so the walks are a cut.
use Rattle.std.proofs.Common.{[], ◌∷◌, All, Contains, sym, ap, subst, arith}
use Rattle.std.proofs.lemmas.List.{length-map, map-append}
use Rattle.std.proofs.lemmas.List.Elements.{All-nil, All-push, All-weaker, All-contains, All-contains_itself}
use Rattle.overlay_plane.specs.NextSteps.{LeadsOn}
use Rattle.overlay_plane.specs.Turn.{IsOrbit}
use Rattle.overlay_plane.proofs.CutWalks.{cuts_leave_cuttable}
use Rattle.overlay_walk.specs.Steps.{plain_step, plain_steps, hand_by}
use Rattle.overlay_walk.specs.Walks.{plain_walks}
use Rattle.overlay_walk.proofs.CutsOn.{IsCutSoFar, cut_begins, cut_ends, cut_goes_on, fewer_left}
use Rattle.overlay_walk.proofs.contour_cut.cut_into_contours.Goals as goal

pub loop-start-init : goal.loop-start-init
loop-start-init g c =
    let plain = plain_steps g.I.IntNumber.whole c.args.steps.now in
    rw c.new-contours.ensures.items (
      cut_begins (hand_by c.args.rule) plain c.requires.cuttable c.requires.once,
      All-nil _,
      All-contains_itself c.args.steps.now,
    )

pub walk-requires-clause-leads_on : goal.walk-requires-clause-leads_on
walk-requires-clause-leads_on g c =
    let left = plain_steps g.I.IntNumber.whole c.loop-start.steps in
    let begun = c.in-Some.ensures.start in
    rw c.start.ensures.left (subst (LeadsOn left) (sym c.hand_by-hand.ensures)
    (cuts_leave_cuttable (hand_by c.args.rule) left c.loop-start.invariant.0.cuttable
    (plain_step g.I.IntNumber.whole c.in-Some.start) begun.among).leads_on)

pub loop-start-smaller : goal.loop-start-smaller
loop-start-smaller g c =
    let whole = g.I.IntNumber.whole in
    let l = c.loop-start in
    let hand_of = hand_by c.args.rule in
    let walk = plain_steps whole c.in_ok-walk.field-0.items in
    let orbit = subst (λ hand. IsOrbit (plain_steps whole l.steps) hand walk) c.hand_by-hand.ensures
    (rw c.start.ensures.left at c.in_ok-walk.ensures.orbit) in
    let fewer = fewer_left hand_of (plain_steps whole c.args.steps.now) (plain_steps whole l.steps)
    (plain_walks whole l.contours.items) l.invariant.0
    (plain_step whole c.in-Some.start) c.in-Some.ensures.start walk orbit c.in_ok-walk.ensures.begins
    (plain_steps whole c.walk.new.self) (rw c.start.ensures.left at c.in_ok-walk.ensures.left) in
    omega (arith, fewer, length-map c.walk.new.self (plain_step whole), length-map l.steps (plain_step whole))

pub loop-start-preserved : goal.loop-start-preserved
loop-start-preserved g c =
    let whole = g.I.IntNumber.whole in
    let l = c.loop-start in
    let all = c.args.steps.now in
    let w = c.in_ok-walk.field-0 in
    let hand_of = hand_by c.args.rule in
    let walk = plain_steps whole w.items in
    let orbit = subst (λ hand. IsOrbit (plain_steps whole l.steps) hand walk) c.hand_by-hand.ensures
    (rw c.start.ensures.left at c.in_ok-walk.ensures.orbit) in
    let on = cut_goes_on hand_of (plain_steps whole all) (plain_steps whole l.steps)
    (plain_walks whole l.contours.items) l.invariant.0
    (plain_step whole c.in-Some.start) c.in-Some.ensures.start walk orbit c.in_ok-walk.ensures.begins
    (plain_steps whole c.walk.new.self) (rw c.start.ensures.left at c.in_ok-walk.ensures.left) in
    let there = All-weaker (Contains l.steps) (Contains all)
    (λ u at. All-contains (Contains all) l.steps u l.invariant.2 at) in
    rw c.in_ok-push.ensures.items (
      subst (IsCutSoFar hand_of (plain_steps whole all) (plain_steps whole c.walk.new.self))
          (sym (map-append (λ v. plain_steps whole v.items) l.contours.items (w ∷ []))) on,
      All-push (λ v. All (Contains all) v.items) l.contours.items w l.invariant.1
          (there w.items (rw c.start.ensures.left at c.in_ok-walk.ensures.among)),
      there c.walk.new.self (rw c.start.ensures.left at c.in_ok-walk.ensures.fewer),
    )

pub returns-clause-cut : goal.returns-clause-cut
returns-clause-cut g c =
    let whole = g.I.IntNumber.whole in
    let l = c.loop-start in
    cut_ends (hand_by c.args.rule) (plain_steps whole c.args.steps.now) (plain_steps whole l.steps)
    (plain_walks whole l.contours.items)
    l.invariant.0 (ap (plain_steps whole) (c.start.ensures.none.0 c.in_default.is))
