use Rattle.std.proofs.Common.{w64}
use Rattle.std.proofs.lemmas.Bool.{iff_false}
use Rattle.std.proofs.lemmas.Int.{to_z-of_z}
use Rattle.polyover_text.specs.Grammar.{within}
use Rattle.polyover_text.proofs.Numbers.{coordinate_fits, side_beyond, no_side}
use Rattle.polyover_text.proofs.number.parse_side.Goals as goal

pub returns-in-Some : goal.returns-in-Some
returns-in-Some c =
    rw (to_z-of_z w64 c.in-Some.side (coordinate_fits c.in-Some.side c.in-Some.ensures.in_range))
    (within c.in-Some.ensures)

pub returns-then-is_number : goal.returns-then-is_number
returns-then-is_number c = side_beyond _ c.in_default.ensures (c.is_number.ensures.0 c.if-is_number.true)

pub returns-else-is_number : goal.returns-else-is_number
returns-else-is_number c = no_side _ c.in_default.ensures (iff_false c.is_number.ensures c.if-is_number.false)
