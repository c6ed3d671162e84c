-- The ends are compared.
use Rattle.std.proofs.Common.{◌<ℤ◌, ◌≤ℤ◌, sym, ◌∙◌}
use Rattle.overlay_geom.proofs.Comparisons.{Decides-int_lt}
use Rattle.overlay_geom.proofs.Signs.{linear}
use Rattle.overlay_given.proofs.HeightBlocks.{at_most}
use Rattle.overlay_given.proofs.heights.heights_of.Goals as goal

pub returns-then-is_less : goal.returns-then-is_less
returns-then-is_less g c =
    let from = g.I.IntNumber.whole c.args.e.now.a.y in
    let to = g.I.IntNumber.whole c.args.e.now.b.y in
    let less : from <ℤ to = (Decides-int_lt from to).0 (sym c.is_less.ensures ∙ c.if-is_less.true) in
    record { a_low = omega linear; b_low = omega linear; a_high = omega linear; b_high = omega linear }

pub returns : goal.returns
returns g c =
    let from = g.I.IntNumber.whole c.args.e.now.a.y in
    let to = g.I.IntNumber.whole c.args.e.now.b.y in
    let less : to ≤ℤ from = at_most from to (sym c.is_less.ensures ∙ c.if-is_less.false) in
    record { a_low = omega linear; b_low = omega linear; a_high = omega linear; b_high = omega linear }
