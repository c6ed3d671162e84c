-- What is left is below the step in each case.
use Rattle.std.proofs.Common.{◌<ℤ◌, sym, subst, ◌∙◌}
use Rattle.overlay_plane.proofs.Tests.{lt_from_test, ge_from_test}
use Rattle.overlay_tiles.specs.Multiples.{IsRemainder}
use Rattle.overlay_tiles.proofs.AllMultiples.{remainder_below, remainder_once, remainder_of_two, remainder_of_two_less}
use Rattle.overlay_tiles.proofs.multiples.+remainder.Goals as goal

pub returns-then-is_less : goal.returns-then-is_less
returns-then-is_less g t c =
    let n = g.I.IntNumber.whole c.args.number in
    let w = g.I.IntNumber.whole c.args.step in
    remainder_below n w c.requires.not_negative (lt_from_test n w (sym c.is_less.ensures ∙ c.if-is_less.true))

pub returns-then-is_less-2 : goal.returns-then-is_less-2
returns-then-is_less-2 g t c =
    let n = g.I.IntNumber.whole c.args.number in
    let w = g.I.IntNumber.whole c.args.step in
    let rest = g.I.IntNumber.whole c.minus-rest.result in
    subst (IsRemainder n w) (sym c.minus-rest.ensures)
    (remainder_once n w (ge_from_test n w (sym c.is_less.ensures ∙ c.if-is_less.false))
    (subst (λ r. r <ℤ w) c.minus-rest.ensures
    (lt_from_test rest w (sym c.is_less-2.ensures ∙ c.if-is_less-2.true))))

pub returns-then-is_less-3 : goal.returns-then-is_less-3
returns-then-is_less-3 g t c =
    let n = g.I.IntNumber.whole c.args.number in
    let w = g.I.IntNumber.whole c.args.step in
    let rest = g.I.IntNumber.whole c.remainder-of_two.result in
    remainder_of_two n w rest
    (subst (λ v. IsRemainder n v rest) c.plus.ensures c.remainder-of_two.ensures)
    (lt_from_test rest w (sym c.is_less-3.ensures ∙ c.if-is_less-3.true))

pub returns-else-is_less-3 : goal.returns-else-is_less-3
returns-else-is_less-3 g t c =
    let n = g.I.IntNumber.whole c.args.number in
    let w = g.I.IntNumber.whole c.args.step in
    let rest = g.I.IntNumber.whole c.remainder-of_two.result in
    subst (IsRemainder n w) (sym c.minus.ensures)
    (remainder_of_two_less n w rest
    (subst (λ v. IsRemainder n v rest) c.plus.ensures c.remainder-of_two.ensures)
    (ge_from_test rest w (sym c.is_less-3.ensures ∙ c.if-is_less-3.false)))
