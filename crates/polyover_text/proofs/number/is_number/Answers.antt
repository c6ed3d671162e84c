use Rattle.std.proofs.Common.{get_or, sym, ap, ◌∙◌, arith}
use Rattle.std.proofs.lemmas.Bool.{false≢true}
use Rattle.polyover_text.proofs.Numbers.{after_minus, without_minus, number_has_byte}
use Rattle.polyover_text.proofs.number.is_number.Goals as goal

pub returns-in_default : goal.returns-in_default
returns-in_default c = (
  λ no. absurd (false≢true no),
  λ h. absurd (omega (arith, number_has_byte c.args.word.now h.0 h.1, c.in_default.ensures.cases)),
)

pub returns-then-first-eq45 : goal.returns-then-first-eq45
returns-then-first-eq45 c =
    let told = after_minus c.args.word.now _ _ c.in-Some.ensures.cases.0 c.if-first-eq45.true in
    (λ yes. told.1 (c.is_numeral.ensures.0 yes), λ number. c.is_numeral.ensures.1 (told.0 number))

pub returns : goal.returns
returns c =
    let told = without_minus c.args.word.now
    (λ e. c.if-first-eq45.false (sym (ap (λ l. get_or l 0 0) c.in-Some.ensures.cases.0) ∙ e)) in
    (λ yes. told.1 (c.is_numeral-2.ensures.0 yes), λ number. c.is_numeral-2.ensures.1 (told.0 number))
