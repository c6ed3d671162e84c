-- The orbit is closed wherever it is said to begin.
use Rattle.std.proofs.Common.{sym, subst, arith}
use Rattle.std.proofs.lemmas.List.{length-map}
use Rattle.std.proofs.lemmas.Result.{IfOk-weaker}
use Rattle.overlay_extract.specs.ClosedWalks.{IsClosedWalk}
use Rattle.overlay_extract.specs.Tours.{IsSplitInto}
use Rattle.overlay_extract.specs.TourOrder.{IsSplitAtStart}
use Rattle.overlay_extract.proofs.TourParts.{split_at_least}
use Rattle.overlay_extract.proofs.TourSplits.{begun_later_closed, begun_later_split, rotated_plain}
use Rattle.overlay_walk.specs.Steps.{plain_step, plain_steps}
use Rattle.overlay_walk.specs.Walks.{plain_walks}
use Rattle.overlay_extract.proofs.slicing.tours.tours_of.Goals as goal

pub split-requires : goal.split-requires
split-requires g c =
    let whole = g.I.IntNumber.whole in
    let orbit = c.args.orbit.now in
    let least = c.least_place.result in
    rw (c.deref.ensures.value, c.rotate_left.ensures.items, c.in_ok-from_least.ensures.items)
    (subst IsClosedWalk (sym (rotated_plain whole least orbit))
    (begun_later_closed least (plain_steps whole orbit) c.requires))

pub returns-clause-tours : goal.returns-clause-tours
returns-clause-tours g c =
    let whole = g.I.IntNumber.whole in
    let orbit = c.args.orbit.now in
    let least = c.least_place.result in
    IfOk-weaker c.split.result _ _
    (λ ts split. begun_later_split least (plain_steps whole orbit) (plain_walks whole ts.items)
    (subst (λ w. IsSplitInto w (plain_walks whole ts.items)) (rotated_plain whole least orbit) split))
    (rw (c.deref.ensures.value, c.rotate_left.ensures.items, c.in_ok-from_least.ensures.items)
    at c.split.ensures.tours)

pub returns-clause-least : goal.returns-clause-least
returns-clause-least g c =
    let whole = g.I.IntNumber.whole in
    let orbit = c.args.orbit.now in
    let least = c.least_place.result in
    let same = length-map orbit (plain_step whole) in
    IfOk-weaker c.split.result _ _
    (λ ts split. split_at_least least (plain_steps whole orbit) (plain_walks whole ts.items)
    (λ some. let within = c.least_place.ensures.within (omega (arith, some, same)) in omega (arith, within, same))
    c.least_place.ensures.least
    (subst (λ w. IsSplitAtStart w (plain_walks whole ts.items)) (rotated_plain whole least orbit) split))
    (rw (c.deref.ensures.value, c.rotate_left.ensures.items, c.in_ok-from_least.ensures.items)
    at c.split.ensures.start)
