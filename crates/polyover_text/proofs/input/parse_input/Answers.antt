use Rattle.std.proofs.Common.{◌≡◌, ◌+◌, ◌≤◌, length, map, refl, ap, ◌∙◌, sym, rules}
use Rattle.std.specs.Str.Lines.{lines}
use Rattle.polyover_text.specs.Grammar.{words}
use Rattle.polyover_text.specs.Lines.{lines_left}
use Rattle.polyover_text.specs.declared.line_error.LineError.TheVariants.{Bad}
use Rattle.polyover_text.proofs.SoFar.{nothing_read, first_bad, command_missing, command_found, count_read}
use Rattle.polyover_text.proofs.input.parse_input.Goals as goal

pub loop-line-init : goal.loop-line-init
loop-line-init g c =
    let left : lines_left c.into_iter-line-iterator.result ≡ lines c.args.text.now =
    ap lines_left c.into_iter-line-iterator.ensures.into_iter_gives ∙ c.new-line-items.ensures in
    record {
      can = tt;
      finite = tt;
      read = nothing_read _ _ _ (ap (map words) (sym left)) c.new.ensures refl;
    }

pub overflow_add-number : goal.overflow_add-number
overflow_add-number g c =
    let few : c.loop-line.number ≤ length c.args.text.now + 1 = count_read c.args.text.now _ _ _
    c.loop-line.invariant.read in
    search rules

pub returns-in-Err-Bad : goal.returns-in-Err-Bad
returns-in-Err-Bad g c =
    let is_bad : c.in-Err-Bad.field-0 ≡ Bad = search rules in
    first_bad _ _ _ _ _ _ c.loop-line.invariant.read c.in-Some.ensures.steps (c.in-Err-Bad.ensures is_bad)

pub overflow_add-result : goal.overflow_add-result
overflow_add-result g c =
    let few : c.loop-line.number ≤ length c.args.text.now + 1 = count_read c.args.text.now _ _ _
    c.loop-line.invariant.read in
    search rules

pub returns-in-None-command : goal.returns-in-None-command
returns-in-None-command g c = command_missing _ _ _ _ c.loop-line.invariant.read c.in-None.ensures.steps.0
    c.in-None-command.is

pub returns-in-Some-command : goal.returns-in-Some-command
returns-in-Some-command g c = command_found _ _ _ _ _ c.loop-line.invariant.read c.in-None.ensures.steps.0
    c.in-Some-command.is
