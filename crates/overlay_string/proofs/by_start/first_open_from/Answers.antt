-- One more step is taken, up to the first one that is open, or that leaves another point.
use Rattle.std.proofs.Common.{◌≡◌, ◌<◌, true, false, length, sym, ◌∙◌, subst, rules, arith}
use Rattle.overlay_geom.specs.Plane.{point_eq}
use Rattle.overlay_geom.specs.Points.{plain_point}
use Rattle.overlay_geom.proofs.Orders.{point_eq-same}
use Rattle.overlay_parts.proofs.EdgeOrder.{point_cmp-is_tie}
use Rattle.overlay_walk.specs.Steps.{plain_step}
use Rattle.overlay_string.proofs.FirstPieces.{none_follows, none_left, next_is_first, one_more_taken}
use Rattle.overlay_string.proofs.by_start.first_open_from.Goals as goal

pub is_taken-requires : goal.is_taken-requires
is_taken-requires g c =
    let step = c.index-steps-i.result in
    subst (λ s. s.edge < length c.args.taken.now) (sym c.index-steps-i.is)
    (c.requires.within c.loop-i.i step c.loop-i-test.true)

pub returns-then-not-is_eq : goal.returns-then-not-is_eq
returns-then-not-is_eq g c =
    let whole = g.I.IntNumber.whole in
    let steps = c.args.steps.now in
    let p = plain_point whole c.args.point in
    let step = c.index-steps-i.result in
    let apart : point_eq (plain_step whole step).from p ≡ false = sym (point_cmp-is_tie (plain_step whole step).from p)
    ∙ search rules in
    none_follows whole steps c.args.taken.now p c.requires.order c.count_leaving_below-low.result
    c.count_leaving_below-low.ensures.parted c.loop-i.i
    (omega arith) c.loop-i.invariant step c.loop-i-test.true c.index-steps-i.is apart

pub returns-then-not-is_taken : goal.returns-then-not-is_taken
returns-then-not-is_taken g c =
    let whole = g.I.IntNumber.whole in
    let steps = c.args.steps.now in
    let p = plain_point whole c.args.point in
    let step = c.index-steps-i.result in
    let here : point_eq (plain_step whole step).from p ≡ true = sym (point_cmp-is_tie (plain_step whole step).from p)
    ∙ search rules in
    next_is_first whole steps c.args.taken.now p c.requires.order c.count_leaving_below-low.result
    c.count_leaving_below-low.ensures.parted c.loop-i.i
    (omega arith) c.loop-i.invariant step c.loop-i-test.true c.index-steps-i.is
    (point_eq-same (plain_step whole step).from p here) (sym c.is_taken.ensures ∙ search rules)

pub loop-i-preserved : goal.loop-i-preserved
loop-i-preserved g c =
    let step = c.index-steps-i.result in
    one_more_taken c.args.steps.now c.args.taken.now c.count_leaving_below-low.result c.loop-i.i (omega arith)
    c.loop-i-test.true c.loop-i.invariant step c.index-steps-i.is (sym c.is_taken.ensures ∙ search rules)

pub returns : goal.returns
returns g c =
    let whole = g.I.IntNumber.whole in
    let steps = c.args.steps.now in
    let p = plain_point whole c.args.point in
    let past = c.loop-i-test.false in
    none_left whole steps c.args.taken.now p c.requires.order c.count_leaving_below-low.result
    c.count_leaving_below-low.ensures.parted c.loop-i.i
    (omega arith) c.loop-i.invariant (omega arith)
