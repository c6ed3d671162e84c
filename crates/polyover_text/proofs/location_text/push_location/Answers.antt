-- The line is that of the location.
use Rattle.std.proofs.Common.{◌≡◌, ◌++◌, OnOk, codes, string_bytes, sym, subst}
use Rattle.polyover_text.specs.Printed.{location_line}
use Rattle.polyover_text.proofs.Printing.{line_added}
use Rattle.polyover_text.proofs.location_text.push_location.Goals as goal

pub returns-in-Inside : goal.returns-in-Inside
returns-in-Inside g c =
    let pushed = c.push_str in
    let old = string_bytes c.args.text.now in
    subst (λ l. OnOk pushed.result (string_bytes pushed.new.self ≡ old ++ location_line l)) (sym c.in-Inside.is)
    (line_added pushed.result (string_bytes pushed.new.self) old (codes "inside\n") pushed.ensures.bytes)

pub returns-in-Boundary : goal.returns-in-Boundary
returns-in-Boundary g c =
    let pushed = c.push_str-in-Boundary in
    let old = string_bytes c.args.text.now in
    subst (λ l. OnOk pushed.result (string_bytes pushed.new.self ≡ old ++ location_line l)) (sym c.in-Boundary.is)
    (line_added pushed.result (string_bytes pushed.new.self) old (codes "boundary\n") pushed.ensures.bytes)

pub returns-in-Outside : goal.returns-in-Outside
returns-in-Outside g c =
    let pushed = c.push_str-in-Outside in
    let old = string_bytes c.args.text.now in
    subst (λ l. OnOk pushed.result (string_bytes pushed.new.self ≡ old ++ location_line l)) (sym c.in-Outside.is)
    (line_added pushed.result (string_bytes pushed.new.self) old (codes "outside\n") pushed.ensures.bytes)
