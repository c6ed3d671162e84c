-- The steps before the place leave points below p by the step right before it, the others do not by the step there.
use Rattle.std.proofs.Common.{◌≡◌, ◌-◌, ◌<◌, true, length, sym, ◌∙◌, subst, arith}
use Rattle.overlay_geom.specs.Plane.{point_lt}
use Rattle.overlay_geom.specs.Points.{plain_point}
use Rattle.overlay_walk.specs.Places.{step_at}
use Rattle.overlay_walk.specs.Steps.{plain_steps}
use Rattle.overlay_walk.proofs.Runs.{parted_at}
use Rattle.overlay_walk.proofs.next.is_parted_at.Goals as goal

pub returns-then-place-eq0-clause-parted : goal.returns-then-place-eq0-clause-parted
returns-then-place-eq0-clause-parted g c = λ first.
    let whole = g.I.IntNumber.whole in
    let place = c.args.place in
    let outside = c.if-place-steps.false in
    let none = c.if-place-eq0.true in
    let inside : place < length c.args.steps.now = omega (arith, outside) in
    parted_at whole c.args.steps.now c.requires (plain_point whole c.args.p) place inside
    (sym c.leaves_below.ensures ∙ c.if-leaves_below.false) (λ k next. absurd (omega (arith, next, none)))

pub returns-else-place-eq0-clause-parted : goal.returns-else-place-eq0-clause-parted
returns-else-place-eq0-clause-parted g c = λ below.
    let whole = g.I.IntNumber.whole in
    let ss = plain_steps whole c.args.steps.now in
    let p = plain_point whole c.args.p in
    let place = c.args.place in
    let outside = c.if-place-steps.false in
    let inside : place < length c.args.steps.now = omega (arith, outside) in
    parted_at whole c.args.steps.now c.requires p place inside
    (sym c.leaves_below.ensures ∙ c.if-leaves_below.false) (λ k next.
    let before : place - 1 ≡ k = omega (arith, next) in
    subst (λ n. point_lt (step_at ss n).from p ≡ true) before (sym c.leaves_below-else-place-eq0.ensures ∙ below))
