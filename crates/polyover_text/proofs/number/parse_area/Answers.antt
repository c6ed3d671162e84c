use Rattle.std.proofs.Common.{FitsSigned, subst, sym}
use Rattle.std.specs.Int.{w128}
use Rattle.std.proofs.lemmas.Int.{to_z-of_z}
use Rattle.polyover_text.proofs.Numbers.{area_read}
use Rattle.polyover_text.proofs.number.parse_area.Goals as goal

pub returns-in-Ok : goal.returns-in-Ok
returns-in-Ok c =
    let parsed = c.in-Ok.ensures.value.0 in
    let text = c.in_ok-number_text.ensures in
    let fits : FitsSigned w128 c.in-Ok.number = subst (FitsSigned w128) (sym parsed.1) parsed.0.1 in
    rw c.ok.ensures.value
    (area_read c.args.word.now _ c.in-Ok.number c.try_from.result text.0 text.1 parsed.0.0 fits parsed.1
    (rw (to_z-of_z w128 c.in-Ok.number fits) at c.try_from.ensures))
