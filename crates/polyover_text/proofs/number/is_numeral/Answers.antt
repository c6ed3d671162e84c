use Rattle.std.proofs.lemmas.Bool.{false≢true}
use Rattle.polyover_text.proofs.Numbers.{digit_passed, digit_lacks, numeral_told}
use Rattle.polyover_text.proofs.number.is_numeral.Goals as goal

pub returns-then-not-is_ascii_digit : goal.returns-then-not-is_ascii_digit
returns-then-not-is_ascii_digit c = (
  λ no. absurd (false≢true no),
  λ h. absurd (digit_lacks c.args.bytes.now _ _ _ c.loop-first.invariant c.in-Some.ensures.cases.0
      (rw c.if-not-is_ascii_digit.true at c.is_ascii_digit.ensures.cases) h),
)

pub loop-first-preserved : goal.loop-first-preserved
loop-first-preserved c = digit_passed c.args.bytes.now _ _ _ c.loop-first.invariant c.in-Some.ensures.cases.0
    (rw c.if-not-is_ascii_digit.false at c.is_ascii_digit.ensures.cases)

pub returns : goal.returns
returns c = numeral_told c.args.bytes.now _ c.is_empty.result c.loop-first.invariant c.in_default.ensures.cases
    c.is_empty.ensures
