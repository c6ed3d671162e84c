use Rattle.std.proofs.Common.{string_bytes}
use Rattle.std.proofs.lemmas.Result.{err_from_is_err_and}
use Rattle.polyover_text.proofs.InRange.{asked_in_range}
use Rattle.polyover_engine.proofs.Endings.{reading_stopped, parsing_failed, answered_or_ended}
use Rattle.polyover_engine.proofs.engine.answer.Goals as goal

pub returns-in_err-bytes : goal.returns-in_err-bytes
returns-in_err-bytes g c =
    let p = err_from_is_err_and c.from_residual.result c.from_residual.ensures.1 in
    rw (p.1, p.2) (reading_stopped _ _ _ _ _ c.in_err-bytes.ensures)

pub returns-in_err-input : goal.returns-in_err-input
returns-in_err-input g c =
    let p = err_from_is_err_and c.from_residual-in_err-input.result c.from_residual-in_err-input.ensures.1 in
    rw (p.1, p.2) (parsing_failed _ _ _ _ _ _ c.in_ok-bytes.ensures c.deref.ensures.value _ c.in_err-input.ensures)

pub answer_text-requires : goal.answer_text-requires
answer_text-requires g c = asked_in_range _ _ _ c.in_ok-input.ensures.asks

pub returns : goal.returns
returns g c =
    answered_or_ended _ _ _ _ _ _ c.in_ok-bytes.ensures c.deref.ensures.value _ _ _ c.in_ok-input.ensures string_bytes
    c.answer_text.result c.answer_text.ensures
