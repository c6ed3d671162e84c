-- The place at the number of the point is that of a step that leaves it, or no step of the path does.
use Rattle.std.proofs.Common.{◌≡◌, ◌<◌, [], ◌∷◌, ◌++◌, List, length, set, sym, ap, ◌∙◌, subst, arith}
use Rattle.std.proofs.lemmas.List.{length-map, map-append, take-map}
use Rattle.overlay_extract.specs.Visits.{AreNoted}
use Rattle.overlay_extract.proofs.Visits.{none_left, noted_back, noted_onward, number_within}
use Rattle.overlay_walk.specs.Steps.{plain_step, plain_steps, IsByFrom}
use Rattle.overlay_walk.specs.declared.step.Step.{Step as StepTaken}
use Rattle.overlay_extract.proofs.slicing.visits.WalkVisits.note.Goals as goal

pub count_leaving_below-number-requires : goal.count_leaving_below-number-requires
count_leaving_below-number-requires g c =
    subst (λ (ss : List (StepTaken g.row.I.Denot)). IsByFrom (plain_steps g.I.IntNumber.whole ss))
    (sym c.deref.ensures.value) c.requires.noted.by_start

pub index-place-requires : goal.index-place-requires
index-place-requires g c =
    let parted = rw c.deref.ensures.value at c.count_leaving_below-number.ensures.parted in
    let within = number_within g.I.IntNumber.whole c.args.self.now.steps.items
    (plain_step g.I.IntNumber.whole c.args.step).from c.requires.left c.count_leaving_below-number.result parted in
    let each = c.requires.noted.a_place_each in
    omega (arith, within, each, c.args.self.now.places.ok.0)

pub index_mut-requires : goal.index_mut-requires
index_mut-requires g c =
    let parted = rw c.deref.ensures.value at c.count_leaving_below-number.ensures.parted in
    let within = number_within g.I.IntNumber.whole c.args.self.now.steps.items
    (plain_step g.I.IntNumber.whole c.args.step).from c.requires.left c.count_leaving_below-number.result parted in
    let each = c.requires.noted.a_place_each in
    omega (arith, within, each, c.args.self.now.places.ok.0)

pub returns-then-leaves_at-clause-place : goal.returns-then-leaves_at-clause-place
returns-then-leaves_at-clause-place g c = c.leaves_at.ensures.leaves c.if-leaves_at.true

pub returns-then-leaves_at-clause-noted : goal.returns-then-leaves_at-clause-noted
returns-then-leaves_at-clause-noted g c =
    let whole = g.I.IntNumber.whole in
    let steps = c.args.self.now.steps.items in
    let places = c.args.self.now.places.items in
    let path = c.args.path.now in
    let step = plain_step whole c.args.step in
    let place = c.index-place.result.now in
    let found = c.leaves_at.ensures.leaves c.if-leaves_at.true in
    rw (map-append, ← take-map)
    (noted_back whole steps places (plain_steps whole path) step place c.requires.noted c.requires.left found.0 found.1)

pub returns-clause-place : goal.returns-clause-place
returns-clause-place g c =
    let whole = g.I.IntNumber.whole in
    let path = c.args.path.now in
    let parted = rw c.deref.ensures.value at c.count_leaving_below-number.ensures.parted in
    none_left whole c.args.self.now.steps.items c.args.self.now.places.items (plain_steps whole path)
    c.requires.noted (plain_step whole c.args.step).from c.count_leaving_below-number.result
    c.index-place.result.now parted c.index-place.ensures
    (λ within. c.leaves_at.ensures.differs c.if-leaves_at.false
    (omega (arith, within, length-map path (plain_step whole))))

pub returns-clause-noted : goal.returns-clause-noted
returns-clause-noted g c =
    let whole = g.I.IntNumber.whole in
    let steps = c.args.self.now.steps.items in
    let places = c.args.self.now.places.items in
    let path = c.args.path.now in
    let step = plain_step whole c.args.step in
    let number = c.count_leaving_below-number.result in
    let parted = rw c.deref.ensures.value at c.count_leaving_below-number.ensures.parted in
    let none = none_left whole steps places (plain_steps whole path) c.requires.noted step.from number
    c.index-place.result.now parted c.index-place.ensures
    (λ within. c.leaves_at.ensures.differs c.if-leaves_at.false
    (omega (arith, within, length-map path (plain_step whole))))
    in
    rw map-append (subst (λ m. AreNoted whole steps (set places number m) (plain_steps whole path ++ step ∷ []))
    (length-map path (plain_step whole))
    (noted_onward whole steps places (plain_steps whole path) step number c.requires.noted c.requires.left parted none))
