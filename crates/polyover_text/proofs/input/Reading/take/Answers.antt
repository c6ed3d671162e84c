use Rattle.std.proofs.Common.{refl, subst}
use Rattle.std.proofs.lemmas.Result.{err_from_is_err_and}
use Rattle.polyover_text.specs.Inputs.{Give}
use Rattle.polyover_text.specs.Statements.{figures_at, IsFaultOf}
use Rattle.polyover_text.proofs.GoodLines.{takes_blank, takes_command, refuses_nothing}
use Rattle.polyover_text.proofs.Readings.{refuses_after_command, takes_pushed, takes_path, takes_point}
use Rattle.polyover_text.proofs.input.Reading.take.Goals as goal
use Rattle.polyover_text.proofs.input.Reading.take.Goals.{in_default-Some-via-in-Contour+in-Some}
use Rattle.polyover_text.proofs.input.Reading.take.Goals.{in_default-Some-via-in-OpenPath+in-Some}
use Rattle.polyover_text.proofs.input.Reading.take.Goals.{in_default-Some-via-in-Point+in-Some}
use Rattle.polyover_text.proofs.input.Reading.take.Goals.{in_default-Some-via-in-Run+in-Some}

pub returns-in_err-parse_statement : goal.returns-in_err-parse_statement
returns-in_err-parse_statement g c =
    let p = err_from_is_err_and c.from_residual.result c.from_residual.ensures.1 in
    rw (p.1, p.2) (λ e. record {
      refuses = λ ls h. refuses_nothing ls _ (subst (IsFaultOf _) e c.in_err-parse_statement.ensures);
    })

pub returns-in_default-Some : goal.returns-in_default-Some
returns-in_default-Some g c =
    elim c.in_default-Some.branch [
      | in_default-Some-via-in-Contour+in-Some w ↦ λ e. refuses_after_command _ _ c.in_ok-parse_statement.field-0 _
          c.in_ok-parse_statement.ensures
          w.in_default-Some.not-Blank-0 w.in_default-Some.is-1
      | in_default-Some-via-in-OpenPath+in-Some w ↦ λ e. refuses_after_command _ _ c.in_ok-parse_statement.field-0 _
          c.in_ok-parse_statement.ensures
          w.in_default-Some.not-Blank-0 w.in_default-Some.is-1
      | in_default-Some-via-in-Point+in-Some w ↦ λ e. refuses_after_command _ _ c.in_ok-parse_statement.field-0 _
          c.in_ok-parse_statement.ensures
          w.in_default-Some.not-Blank-0 w.in_default-Some.is-1
      | in_default-Some-via-in-Run+in-Some w ↦ λ e. refuses_after_command _ _ c.in_ok-parse_statement.field-0 _
          c.in_ok-parse_statement.ensures
          w.in_default-Some.not-Blank-0 w.in_default-Some.is-1
    ]

pub returns-in-Blank-default : goal.returns-in-Blank-default
returns-in-Blank-default g c =
    let says = rw c.in-Blank-default.is-0 at c.in_ok-parse_statement.ensures in
    record { takes = λ ls e h. takes_blank ls (figures_at c.args.self.now.figures) c.args.self.now.command _ h says }

pub returns-in-Run-None : goal.returns-in-Run-None
returns-in-Run-None g c =
    let says = rw c.in-Run-None.is-0 at c.in_ok-parse_statement.ensures in
    let fs = figures_at c.args.self.now.figures in
    record {
      takes = λ ls e h. takes_command ls fs _ c.args.number _ (subst (Give ls fs) c.in-Run-None.is-1 h) says e;
    }

pub returns-in_ok-push-in-Contour-None : goal.returns-in_ok-push-in-Contour-None
returns-in_ok-push-in-Contour-None g c =
    let says = rw c.in-Contour-None.is-0 at c.in_ok-parse_statement.ensures in
    record {
      takes = λ ls e h. takes_pushed ls _ c.args.self.now.figures
          (record c.args.self.now.figures { contours = c.push.new.self }) _ c.args.number _ c.in-Contour-None.is-1 refl
          c.in_ok-push-in-Contour-None.ensures.items refl e says h;
    }

pub returns-in_ok-push-in-Point-None : goal.returns-in_ok-push-in-Point-None
returns-in_ok-push-in-Point-None g c =
    let says = rw c.in-Point-None.is-0 at c.in_ok-parse_statement.ensures in
    record {
      takes = λ ls e h. takes_point ls _ c.args.self.now.figures
          (record c.args.self.now.figures { points = c.push-in-Point-None.new.self }) _ _
          c.in-Point-None.is-1 refl c.in_ok-push-in-Point-None.ensures.items says h;
    }

pub returns-in_ok-push-in-OpenPath-None : goal.returns-in_ok-push-in-OpenPath-None
returns-in_ok-push-in-OpenPath-None g c =
    let says = rw c.in-OpenPath-None.is-0 at c.in_ok-parse_statement.ensures in
    record {
      takes = λ ls e h. takes_path ls _ c.args.self.now.figures
          (record c.args.self.now.figures { lines = c.push-in-OpenPath-None.new.self }) _ _
          c.in-OpenPath-None.is-1 refl c.in_ok-push-in-OpenPath-None.ensures.items says h;
    }
