use Rattle.std.proofs.Common.{ℕ, ◌==◌, length, arith, rules}
use Rattle.std.proofs.lemmas.List.Sums.{position_or_len_is}
use Rattle.polyover_text.proofs.Splits.{one_part, first_part}
use Rattle.polyover_text.proofs.split.split_once.Goals as goal

pub returns-in_err-at-clause-parts : goal.returns-in_err-at-clause-parts
returns-in_err-at-clause-parts c =
    let text = c.args.text.now in
    let none = position_or_len_is (λ (b : ℕ). b == c.args.separator) text (length text) 0 (omega arith) (search rules)
    (search rules) in
    rw c.from_residual.ensures (one_part (λ (b : ℕ). b == c.args.separator) text none)

pub returns-clause-parts : goal.returns-clause-parts
returns-clause-parts c =
    let text = c.args.text.now in
    let found = position_or_len_is (λ (b : ℕ). b == c.args.separator) text c.in_ok-at.at 0 (search rules) (search rules)
    (search rules) in
    first_part (λ (b : ℕ). b == c.args.separator) text 0 c.in_ok-at.at found (search rules)
