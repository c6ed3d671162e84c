-- A further place is passed, up to the first open place.
use Rattle.std.proofs.Common.{◌≡◌, length, sym, ◌∙◌, subst, arith}
use Rattle.overlay_walk.specs.Places.{ArePassed}
use Rattle.overlay_walk.proofs.StartPlaces.{passed_more}
use Rattle.overlay_walk.proofs.leftmost.first_open.Goals as goal

pub loop-i-init : goal.loop-i-init
loop-i-init c = c.requires.passed

pub returns-then-is_open-clause-passed : goal.returns-then-is_open-clause-passed
returns-then-is_open-clause-passed c = c.loop-i.invariant

pub returns-then-is_open-clause-open : goal.returns-then-is_open-clause-open
returns-then-is_open-clause-open c = λ within. sym c.is_open.ensures ∙ c.if-is_open.true

pub loop-i-preserved : goal.loop-i-preserved
loop-i-preserved c =
    passed_more c.args.taken.now c.args.places.now c.loop-i.i c.loop-i.invariant c.loop-i-test.true
    (sym c.is_open.ensures ∙ c.if-is_open.false)

pub returns-clause-passed : goal.returns-clause-passed
returns-clause-passed c =
    let past = c.loop-i-test.false in
    let up = c.loop-i.invariant.within in
    let end : c.loop-i.i ≡ length c.args.places.now = omega arith in
    subst (ArePassed c.args.taken.now c.args.places.now) end c.loop-i.invariant
