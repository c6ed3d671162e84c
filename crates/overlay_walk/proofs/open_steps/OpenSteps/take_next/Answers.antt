-- If the steps left go on, a place is found, and the step there is taken.
use Rattle.std.proofs.Common.{ℕ, ◌<◌, Bool, ℤ, Some, List, length, All, sym, ap, ◌∙◌, subst, arith}
use Rattle.std.proofs.lemmas.List.{length-map, length-set}
use Rattle.overlay_geom.specs.Plane.{Step}
use Rattle.overlay_plane.specs.Turn.{Hand}
use Rattle.overlay_walk.specs.Places.{IsNextPlace}
use Rattle.overlay_walk.specs.Steps.{plain_hand, plain_step, plain_steps, IsByFrom, IsLong}
use Rattle.overlay_walk.specs.declared.step.Step.{Step as StepTaken}
use Rattle.overlay_walk.proofs.NextTaken.{some_is_found, found_left, found_next, others_left}
use Rattle.overlay_walk.proofs.OpenPlaces.{unmarked-fewer}
use Rattle.overlay_walk.proofs.StartPlaces.{passed_still}
use Rattle.overlay_walk.proofs.TakenAhead.{both_fans_still}
use Rattle.overlay_walk.proofs.open_steps.OpenSteps.take_next.Goals as goal

-- the place is one of the steps
place_within : {I : Type 0} (whole : I → ℤ) (steps : List (StepTaken I)) (marks : List Bool) (hand : Hand)
    (s : Step) (m : ℕ)
    → IsNextPlace (plain_steps whole steps) marks hand s (Some m) → m < length steps
place_within whole steps marks hand s m next = omega (arith, next.below, length-map steps (plain_step whole))

pub place_by_hand-requires-clause-marks : goal.place_by_hand-requires-clause-marks
place_by_hand-requires-clause-marks g c = ap length c.deref-2.ensures.value ∙ c.self.invariant.marked
    ∙ sym (ap length c.deref.ensures.value)

pub place_by_hand-requires-clause-by_start : goal.place_by_hand-requires-clause-by_start
place_by_hand-requires-clause-by_start g c =
    subst (λ (ss : List (StepTaken g.row.I.Denot)). IsByFrom (plain_steps g.I.IntNumber.whole ss))
    (sym c.deref.ensures.value) c.self.invariant.leaving

pub place_by_hand-requires-clause-long : goal.place_by_hand-requires-clause-long
place_by_hand-requires-clause-long g c =
    subst (λ (ss : List (StepTaken g.row.I.Denot)). All (IsLong g.I.IntNumber.limit)
    (plain_steps g.I.IntNumber.whole ss)) (sym c.deref.ensures.value)
    c.self.invariant.long

pub place_by_hand-requires-clause-fans : goal.place_by_hand-requires-clause-fans
place_by_hand-requires-clause-fans g c =
    rw (c.deref.ensures.value, c.deref-2.ensures.value) (c.self.invariant.turning)

pub index_mut-requires : goal.index_mut-requires
index_mut-requires g c =
    let within = place_within g.I.IntNumber.whole c.self.inside.steps.items c.self.inside.taken.items
    (plain_hand c.args.hand) (plain_step g.I.IntNumber.whole c.args.step)
    c.in-Some.place (rw (c.deref.ensures.value, c.deref-2.ensures.value) at c.in-Some.ensures.next) in
    omega (arith, within, c.self.invariant.marked)

pub index-requires : goal.index-requires
index-requires g c =
    let within = place_within g.I.IntNumber.whole c.self.inside.steps.items c.self.inside.taken.items
    (plain_hand c.args.hand) (plain_step g.I.IntNumber.whole c.args.step)
    c.in-Some.place (rw (c.deref.ensures.value, c.deref-2.ensures.value) at c.in-Some.ensures.next) in
    omega (arith, within, c.self.inside.steps.ok.0)

pub invariant_of-self : goal.invariant_of-self
invariant_of-self g c =
    record {
      marked = length-set _ _ _ ∙ c.self.invariant.marked;
      leaving = c.self.invariant.leaving;
      long = c.self.invariant.long;
      starting = c.self.invariant.starting;
      passing = passed_still c.self.inside.taken.items c.self.inside.places.items c.self.inside.passed c.in-Some.place
          c.self.invariant.passing;
      turning = both_fans_still (plain_steps g.I.IntNumber.whole c.self.inside.steps.items) c.self.inside.taken.items _
          c.in-Some.place (rw (c.deref.ensures.value, c.deref-2.ensures.value) at c.in-Some.ensures.fans);
    }

pub unreachable-requires : goal.unreachable-requires
unreachable-requires g c =
    some_is_found g.I.IntNumber.whole c.self.inside.steps.items c.self.inside.taken.items c.self.invariant.marked
    (plain_hand c.args.hand) (plain_step g.I.IntNumber.whole c.args.step)
    (rw c.self.view_is c.requires.goes_on)
    (rw (c.deref.ensures.value, c.deref-2.ensures.value) at c.in-None.ensures.next)

pub returns-clause-among : goal.returns-clause-among
returns-clause-among g c =
    rw (← c.self.view_is)
    (found_left g.I.IntNumber.whole c.self.inside.steps.items c.self.inside.taken.items c.self.invariant.marked
    (plain_hand c.args.hand) (plain_step g.I.IntNumber.whole c.args.step)
    c.in-Some.place c.index.result.now c.index.ensures
    (rw (c.deref.ensures.value, c.deref-2.ensures.value) at c.in-Some.ensures.next))

pub returns-clause-next : goal.returns-clause-next
returns-clause-next g c =
    rw (← c.self.view_is)
    (found_next g.I.IntNumber.whole c.self.inside.steps.items c.self.inside.taken.items c.self.invariant.marked
    (plain_hand c.args.hand) (plain_step g.I.IntNumber.whole c.args.step)
    c.in-Some.place c.index.result.now c.index.ensures
    (rw (c.deref.ensures.value, c.deref-2.ensures.value) at c.in-Some.ensures.next))

pub returns-clause-left : goal.returns-clause-left
returns-clause-left g c =
    rw (← c.self.view_is)
    (others_left g.I.IntNumber.whole c.self.inside.steps.items c.self.inside.taken.items c.self.invariant.marked
    (plain_hand c.args.hand) (plain_step g.I.IntNumber.whole c.args.step)
    c.in-Some.place c.index.result.now c.index.ensures
    (rw (c.deref.ensures.value, c.deref-2.ensures.value) at c.in-Some.ensures.next)
    (rw c.self.view_is c.requires.once))

pub returns-clause-fewer : goal.returns-clause-fewer
returns-clause-fewer g c = rw (← c.self.view_is)
    (unmarked-fewer c.self.inside.steps.items c.self.inside.taken.items c.in-Some.place c.self.invariant.marked)
