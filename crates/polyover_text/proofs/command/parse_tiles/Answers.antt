use Rattle.std.proofs.Common.{w64}
use Rattle.std.proofs.lemmas.Int.{to_z-of_z}
use Rattle.polyover_text.proofs.Commands.{tiles_named, words_after_sides}
use Rattle.polyover_text.proofs.Numbers.{side_fits}
use Rattle.polyover_text.proofs.command.parse_tiles.Goals as goal

pub returns-in-None : goal.returns-in-None
returns-in-None c =
    let width = to_z-of_z w64 c.in_ok-width.width (side_fits _ c.in_ok-width.width c.in_ok-width.ensures) in
    let height = to_z-of_z w64 c.in_ok-height.height (side_fits _ c.in_ok-height.height c.in_ok-height.ensures) in
    rw (width, height)
    (tiles_named _ _ _ _ _ _ _ _ c.in_ok-next.ensures.steps c.in_ok-next-2.ensures.steps c.in_ok-next-3.ensures.steps
    c.in-None.ensures.steps.0 c.in_ok-fill_rule.ensures c.in_ok-width.ensures c.in_ok-height.ensures)

pub returns-in-Some : goal.returns-in-Some
returns-in-Some c =
    words_after_sides _ _ _ _ _ _ _ _ _ c.in_ok-next.ensures.steps c.in_ok-next-2.ensures.steps
    c.in_ok-next-3.ensures.steps c.in-Some.ensures.steps
