-- By the sign of the coordinate, and whether it is a multiple itself.
use Rattle.std.proofs.Common.{◌≡◌, neg_ℤ, sym, subst, ◌∙◌}
use Rattle.overlay_geom.proofs.Signs.{linear}
use Rattle.overlay_plane.proofs.Tests.{lt_from_test, ge_from_test}
use Rattle.overlay_tiles.specs.Multiples.{IsRemainder, IsWayToNext}
use Rattle.overlay_tiles.proofs.AllMultiples.{way_above, way_below, way_at}
use Rattle.overlay_tiles.proofs.multiples.way_to_next.Goals as goal

pub returns-then-is_less : goal.returns-then-is_less
returns-then-is_less g c =
    let whole = g.I.IntNumber.whole in
    let none = c.minus-zero.ensures in
    let turned = c.minus-turned.ensures in
    let negated : whole c.minus-turned.result ≡ neg_ℤ (whole c.args.at) = omega linear in
    let less = lt_from_test (whole c.minus-zero.result) (whole c.remainder-rest.result)
    (sym c.is_less.ensures ∙ c.if-is_less.true) in
    way_below (whole c.args.step) (whole c.args.at) (whole c.remainder-rest.result)
    (subst (λ n. IsRemainder n (whole c.args.step) (whole c.remainder-rest.result)) negated c.remainder-rest.ensures)
    (omega linear)

pub returns-else-is_less : goal.returns-else-is_less
returns-else-is_less g c =
    let whole = g.I.IntNumber.whole in
    let none = c.minus-zero.ensures in
    let turned = c.minus-turned.ensures in
    let negated : whole c.minus-turned.result ≡ neg_ℤ (whole c.args.at) = omega linear in
    let no_more = ge_from_test (whole c.minus-zero.result) (whole c.remainder-rest.result)
    (sym c.is_less.ensures ∙ c.if-is_less.false) in
    way_at (whole c.args.step) (whole c.args.at) (whole c.remainder-rest.result)
    (subst (λ n. IsRemainder n (whole c.args.step) (whole c.remainder-rest.result)) negated c.remainder-rest.ensures)
    (omega linear)

pub returns-then-is_le : goal.returns-then-is_le
returns-then-is_le g c =
    let whole = g.I.IntNumber.whole in
    subst (IsWayToNext (whole c.args.step) (whole c.args.at)) (sym c.minus.ensures)
    (way_above (whole c.args.step) (whole c.args.at) (whole c.remainder-over.result) c.remainder-over.ensures)
