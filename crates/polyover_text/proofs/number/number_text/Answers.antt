use Rattle.std.proofs.Common.{lit<}
use Rattle.polyover_text.proofs.Numbers.{number_is_text, plus_begins_no_number}
use Rattle.polyover_text.proofs.number.number_text.Goals as goal

pub returns-in_default : goal.returns-in_default
returns-in_default c = λ c' h. c.in_default.ensures.cases.0 (number_is_text _ _ h)

pub returns-then-starts_with : goal.returns-then-starts_with
returns-then-starts_with c = plus_begins_no_number c.args.word.now c.in-Ok.text.now c.in-Ok.ensures.cases.0
    (c.if-starts_with.ensures.byte (lit< tt) (lit< tt) (λ w o h. h))
