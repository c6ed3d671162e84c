use Rattle.std.proofs.Common.{◌≡◌, ◌∷◌, length, ap, rules, ◌∙◌, sym, refl}
use Rattle.polyover_text.specs.Lines.{lines_left}
use Rattle.polyover_text.proofs.FirstLine.{lines_first, only_line}
use Rattle.polyover_text.proofs.lines.LinesIterator.next.Goals as goal

first_line : (c : goal.After-without_carriage_return)
    → lines_left c.args.self.now ≡ c.without_carriage_return.result.now ∷ lines_left (record { rest = c.in-Some.rest })
first_line c =
    lines_first c.args.self.now.rest.now c.in-Some.line.now c.in-Some.rest.now c.in-Some.ensures.parts
    ∙ ap (λ line. line ∷ lines_left (record { rest = c.in-Some.rest })) (sym c.without_carriage_return.ensures)

pub returns-clause-steps : goal.returns-clause-steps
returns-clause-steps c = first_line c

pub returns-clause-goes : goal.returns-clause-goes
returns-clause-goes c =
    let shorter = ap length (first_line c) in
    search rules

pub returns-in_default-clause-steps : goal.returns-in_default-clause-steps
returns-in_default-clause-steps c =
    only_line c.args.self.now c.args.self.now.rest c.is_empty.result c.then_some.result refl c.in_default.ensures.parts
    c.is_empty.ensures c.then_some.ensures
