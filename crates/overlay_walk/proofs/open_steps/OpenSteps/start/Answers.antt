-- The place that is found is that of the start of the steps that are not marked.
use Rattle.std.proofs.Common.{◌<◌, refl, length, arith, subst}
use Rattle.std.specs.Prelude.{Contains}
use Rattle.std.proofs.lemmas.List.{length-map}
use Rattle.overlay_walk.specs.Steps.{plain_step, plain_steps}
use Rattle.overlay_walk.proofs.StartPlaces.{none_open, place_read}
use Rattle.overlay_walk.proofs.Starts.{none_left, start_left, start_found}
use Rattle.overlay_walk.proofs.open_steps.OpenSteps.start.Goals as goal

pub returns-then-self-len-clause-none : goal.returns-then-self-len-clause-none
returns-then-self-len-clause-none g c = (
  λ e. rw (← c.self.view_is) (
      let whole = g.I.IntNumber.whole in
      let steps = c.self.inside.steps.items in
      let taken = c.self.inside.taken.items in
      let passed = rw (c.deref.ensures.value, c.deref-2.ensures.value) at c.first_open-self-inside.ensures.passed in
      none_left whole g.I.IntNumber.limit steps taken c.self.invariant.marked (λ k low h.
      none_open taken c.self.inside.places.items (plain_steps whole steps) c.self.invariant.starting
      c.first_open-self-inside.result passed
      (let same = c.if-self-len.true in let counted = c.len.ensures in omega arith) k low
      (omega (arith, h, length-map steps (plain_step whole))))),
  λ e. refl,
)

pub returns-clause-some : goal.returns-clause-some
returns-clause-some g c =
    let whole = g.I.IntNumber.whole in
    let steps = c.self.inside.steps.items in
    let places = c.self.inside.places.items in
    let taken = c.self.inside.taken.items in
    let passed = rw (c.deref.ensures.value, c.deref-2.ensures.value) at c.first_open-self-inside.ensures.passed in
    let opened = rw (c.deref.ensures.value, c.deref-2.ensures.value) at c.first_open-self-inside.ensures.open in
    let inside : c.first_open-self-inside.result < length places =
    (let differ = c.if-self-len.false in let counted = c.len.ensures in let ok = c.self.inside.places.ok.0 in
    let up = passed.within in omega arith) in
    let first = place_read taken places (plain_steps whole steps) c.self.invariant.starting
    c.first_open-self-inside.result passed (length steps) c.index-place.result.now
    (length-map steps (plain_step whole)) inside c.index-place.ensures opened in
    rw (← c.self.view_is) (start_left whole g.I.IntNumber.limit steps taken c.self.invariant.marked
    c.self.invariant.long
    c.index-place.result.now c.index.result.now c.index.ensures first)

pub returns-clause-start : goal.returns-clause-start
returns-clause-start g c =
    let whole = g.I.IntNumber.whole in
    let steps = c.self.inside.steps.items in
    let places = c.self.inside.places.items in
    let taken = c.self.inside.taken.items in
    let passed = rw (c.deref.ensures.value, c.deref-2.ensures.value) at c.first_open-self-inside.ensures.passed in
    let opened = rw (c.deref.ensures.value, c.deref-2.ensures.value) at c.first_open-self-inside.ensures.open in
    let inside : c.first_open-self-inside.result < length places =
    (let differ = c.if-self-len.false in let counted = c.len.ensures in let ok = c.self.inside.places.ok.0 in
    let up = passed.within in omega arith) in
    let first = place_read taken places (plain_steps whole steps) c.self.invariant.starting
    c.first_open-self-inside.result passed (length steps) c.index-place.result.now
    (length-map steps (plain_step whole)) inside c.index-place.ensures opened in
    rw (← c.self.view_is) (start_found whole g.I.IntNumber.limit steps taken c.self.invariant.marked
    c.self.invariant.long
    c.index-place.result.now c.index.result.now c.index.ensures first)

pub returns-clause-none : goal.returns-clause-none
returns-clause-none g c = (
  λ e. cc,
  λ e. absurd (elim (subst (λ ss. Contains ss c.index.result.now) e (returns-clause-some g c)).1 [ ]),
)
