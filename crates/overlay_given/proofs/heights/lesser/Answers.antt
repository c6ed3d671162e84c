-- The numbers are compared.
use Rattle.std.proofs.Common.{◌<ℤ◌, ◌≤ℤ◌, sym, ◌∙◌}
use Rattle.overlay_geom.proofs.Comparisons.{Decides-int_lt}
use Rattle.overlay_geom.proofs.Signs.{linear}
use Rattle.overlay_given.proofs.HeightBlocks.{at_most}
use Rattle.overlay_given.proofs.heights.lesser.Goals as goal

pub returns-then-is_less : goal.returns-then-is_less
returns-then-is_less g c =
    let y = g.I.IntNumber.whole c.args.y in
    let z = g.I.IntNumber.whole c.args.z in
    let less : y <ℤ z = (Decides-int_lt y z).0 (sym c.is_less.ensures ∙ c.if-is_less.true) in
    record { first = omega linear; second = omega linear }

pub returns : goal.returns
returns g c =
    let y = g.I.IntNumber.whole c.args.y in
    let z = g.I.IntNumber.whole c.args.z in
    let least : z ≤ℤ y = at_most y z (sym c.is_less.ensures ∙ c.if-is_less.false) in
    record { first = omega linear; second = omega linear }
