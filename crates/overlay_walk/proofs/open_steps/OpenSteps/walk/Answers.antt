-- The walk goes on along the orbit, until its start comes again.
use Rattle.std.proofs.Common.{◌≡◌, [], ◌∷◌, All, length, sym, ap, ◌∙◌, subst, arith}
use Rattle.std.proofs.lemmas.Bool.{both_ways}
use Rattle.std.proofs.lemmas.List.{length-map, length_push, map-append}
use Rattle.overlay_geom.specs.Plane.{step_eq}
use Rattle.overlay_plane.specs.Turn.{step_round}
use Rattle.overlay_plane.proofs.AtNodes.{same_steps, equal_steps}
use Rattle.overlay_walk.specs.Steps.{plain_hand, plain_step, plain_steps, IsLong}
use Rattle.overlay_walk.proofs.OpenPlaces.{unmarked-map, unmarked_hold}
use Rattle.overlay_walk.proofs.WalksTaken.{begins_taking, pending_long, pending_goes_on, left_once, more_than_walked}
use Rattle.overlay_walk.proofs.WalksTaken.{walked_on, taken_round, all_taken, fewer_taken, goes_on_taking}
use Rattle.overlay_walk.proofs.open_steps.OpenSteps.walk.Goals as goal

pub loop-self-init : goal.loop-self-init
loop-self-init g c =
    let whole = g.I.IntNumber.whole in
    let limit = g.I.IntNumber.limit in
    let steps = c.self.inside.steps.items in
    let marks = c.self.inside.taken.items in
    let long : All (IsLong limit) (plain_steps whole c.args.self.now) = rw (← c.self.view_is)
    (subst (All (IsLong limit)) (sym (unmarked-map (plain_step whole) steps marks))
    (unmarked_hold (IsLong limit) (plain_steps whole steps) marks (c.self.invariant.marked
    ∙ sym (length-map steps (plain_step whole))) c.self.invariant.long)) in
    rw c.clear.ensures.items (begins_taking whole limit c.args.self.now (plain_hand c.args.hand) c.args.start long
    c.requires.left)

pub take_next-step-requires-clause-once : goal.take_next-step-requires-clause-once
take_next-step-requires-clause-once g c =
    let l = c.loop-self in
    left_once g.I.IntNumber.whole g.I.IntNumber.limit c.args.self.now (plain_hand c.args.hand) c.args.start
    c.requires.leads_on l.room.items l.step l.self l.invariant c.requires.once

pub take_next-step-requires-clause-long : goal.take_next-step-requires-clause-long
take_next-step-requires-clause-long g c =
    let l = c.loop-self in
    pending_long g.I.IntNumber.whole g.I.IntNumber.limit c.args.self.now (plain_hand c.args.hand) c.args.start
    c.requires.leads_on l.room.items l.step l.self l.invariant

pub take_next-step-requires-clause-goes_on : goal.take_next-step-requires-clause-goes_on
take_next-step-requires-clause-goes_on g c =
    let l = c.loop-self in
    pending_goes_on g.I.IntNumber.whole g.I.IntNumber.limit c.args.self.now (plain_hand c.args.hand) c.args.start
    c.requires.leads_on l.room.items l.step l.self l.invariant

pub returns-then-is_same_step-clause-orbit : goal.returns-then-is_same_step-clause-orbit
returns-then-is_same_step-clause-orbit g c =
    let l = c.loop-self in
    let whole = g.I.IntNumber.whole in
    rw c.in_ok-walk.ensures.ok
    (rw c.deref.ensures.value (rw c.in_ok-push.ensures.items
    (taken_round whole g.I.IntNumber.limit c.args.self.now (plain_hand c.args.hand) c.args.start c.requires.leads_on
    l.room.items l.step l.self l.invariant
    c.take_next-step.result c.take_next-step.new.self c.take_next-step.ensures.next c.take_next-step.ensures.left
    (same_steps (plain_step whole c.take_next-step.result) (plain_step whole c.args.start) (sym c.is_same_step.ensures
    ∙ c.if-is_same_step.true)))))

pub returns-then-is_same_step-clause-begins : goal.returns-then-is_same_step-clause-begins
returns-then-is_same_step-clause-begins g c = rw c.in_ok-walk.ensures.ok
    (rw c.deref.ensures.value (rw c.in_ok-push.ensures.items
    (subst (λ ss. step_round ss 0 ≡ plain_step g.I.IntNumber.whole c.args.start)
    (sym (map-append (plain_step g.I.IntNumber.whole) c.loop-self.room.items (c.loop-self.step ∷ [])))
    c.loop-self.invariant.way.begins)))

pub returns-then-is_same_step-clause-among : goal.returns-then-is_same_step-clause-among
returns-then-is_same_step-clause-among g c =
    let l = c.loop-self in
    rw c.in_ok-walk.ensures.ok
    (rw c.deref.ensures.value (rw c.in_ok-push.ensures.items
    (walked_on g.I.IntNumber.whole g.I.IntNumber.limit c.args.self.now (plain_hand c.args.hand) c.args.start
    c.requires.leads_on l.room.items l.step l.self l.invariant)))

pub returns-then-is_same_step-clause-left : goal.returns-then-is_same_step-clause-left
returns-then-is_same_step-clause-left g c =
    let l = c.loop-self in
    let whole = g.I.IntNumber.whole in
    rw c.in_ok-walk.ensures.ok
    (rw c.deref.ensures.value (rw c.in_ok-push.ensures.items
    (all_taken whole g.I.IntNumber.limit c.args.self.now (plain_hand c.args.hand) c.args.start c.requires.leads_on
    l.room.items l.step l.self l.invariant
    c.take_next-step.result c.take_next-step.new.self c.take_next-step.ensures.next c.take_next-step.ensures.left
    (same_steps (plain_step whole c.take_next-step.result) (plain_step whole c.args.start) (sym c.is_same_step.ensures
    ∙ c.if-is_same_step.true)))))

pub returns-then-is_same_step-clause-fewer : goal.returns-then-is_same_step-clause-fewer
returns-then-is_same_step-clause-fewer g c =
    let l = c.loop-self in
    fewer_taken g.I.IntNumber.whole g.I.IntNumber.limit c.args.self.now (plain_hand c.args.hand) c.args.start
    c.requires.leads_on l.room.items l.step l.self l.invariant
    c.take_next-step.result c.take_next-step.new.self c.take_next-step.ensures.next c.take_next-step.ensures.left
    c.take_next-step.ensures.among c.take_next-step.ensures.fewer

pub loop-self-smaller : goal.loop-self-smaller
loop-self-smaller g c =
    let l = c.loop-self in
    let few = more_than_walked g.I.IntNumber.whole g.I.IntNumber.limit c.args.self.now (plain_hand c.args.hand)
    c.args.start c.requires.leads_on l.room.items l.step l.self l.invariant in
    let longer = ap length c.in_ok-push.ensures.items ∙ length_push l.room.items l.step in
    omega (arith, few, longer)

pub loop-self-preserved : goal.loop-self-preserved
loop-self-preserved g c =
    let l = c.loop-self in
    let whole = g.I.IntNumber.whole in
    let t = plain_step whole c.take_next-step.result in
    let start = plain_step whole c.args.start in
    rw c.in_ok-push.ensures.items
    (goes_on_taking whole g.I.IntNumber.limit c.args.self.now (plain_hand c.args.hand) c.args.start c.requires.leads_on
    l.room.items l.step l.self l.invariant
    c.take_next-step.result c.take_next-step.new.self c.take_next-step.ensures.next c.take_next-step.ensures.left
    c.take_next-step.ensures.among c.take_next-step.ensures.fewer
    (λ same. both_ways (step_eq t start) (sym c.is_same_step.ensures ∙ c.if-is_same_step.false)
    (equal_steps t start same)))
