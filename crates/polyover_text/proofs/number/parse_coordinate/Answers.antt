use Rattle.std.proofs.Common.{◌∙◌, refl, subst, sym, FitsSigned, w64}
use Rattle.std.proofs.lemmas.Int.{to_z-of_z}
use Rattle.std.proofs.lemmas.Bool.{false≢true}
use Rattle.overlay_geom.specs.Numbers.{Within}
use Rattle.polyover_text.proofs.Numbers.{parsed_is_number, text_of_number, coordinate_fits}
use Rattle.polyover_text.proofs.number.parse_coordinate.Goals as goal

pub returns-in-Ok : goal.returns-in-Ok
returns-in-Ok c =
    let parsed = c.in-Ok.ensures.value.0 in
    let text = c.in_ok-number_text.ensures in
    let fits : FitsSigned w64 c.in-Ok.number = subst (FitsSigned w64) (sym parsed.1) parsed.0.1 in
    let same = to_z-of_z w64 c.in-Ok.number fits in
    let in_range = c.if-is_in_range.ensures.0 refl in
    rw same (record {
      number = parsed_is_number c.args.word.now _ c.in-Ok.number text.0 text.1 parsed.0.0 parsed.1;
      in_range = rw same at in_range;
    })

pub returns-in_default : goal.returns-in_default
returns-in_default c = λ c' h.
    let parsed = c.in-Ok.ensures.value.0 in
    let numeral = text_of_number c.args.word.now _ c' c.in_ok-number_text.ensures.0 h.number in
    let same = numeral.value ∙ sym parsed.1 in
    let fits : FitsSigned w64 c.in-Ok.number = subst (FitsSigned w64) (sym parsed.1) parsed.0.1 in
    let in_range : Within 4611686018427387903 c.in-Ok.number = subst (Within 4611686018427387903) same h.in_range in
    false≢true (c.if-is_in_range.ensures.1 (rw (to_z-of_z w64 c.in-Ok.number fits) in_range))

pub returns-in_default-2 : goal.returns-in_default-2
returns-in_default-2 c = λ c' h.
    let numeral = text_of_number c.args.word.now _ c' c.in_ok-number_text.ensures.0 h.number in
    c.in_default.ensures.value.0 (numeral.numeral, subst (FitsSigned w64) numeral.value (coordinate_fits c' h.in_range))
