-- The width and the height together are the sum of two differences of coordinates.
use Rattle.std.proofs.Common.{pos, ◌*ℤ◌, ap, sym, ◌∙◌}
use Rattle.std.specs.Ordering.{int_cmp}
use Rattle.overlay_geom.specs.Edges.{ends_of}
use Rattle.overlay_order.specs.Content.{plain_edge}
use Rattle.overlay_arrange.proofs.PixelBounds.{high_where_falls, high_where_rises}
use Rattle.overlay_arrange.proofs.pixel.order_to_high.Goals as goal

pub returns-then-is_less : goal.returns-then-is_less
returns-then-is_less g c =
    let e = ends_of (plain_edge g.I.IntNumber.whole g.C.EdgeCount.counts c.args.e.now) in
    c.compare_doubled.ensures ∙ ap (int_cmp (pos 2 *ℤ g.I.Wide.WideIntNumber.whole c.args.cross))
    (high_where_rises e _ _ (sym c.is_less.ensures ∙ c.if-is_less.true) c.minus.ensures c.minus-then-is_less.ensures)

pub returns-else-is_less : goal.returns-else-is_less
returns-else-is_less g c =
    let e = ends_of (plain_edge g.I.IntNumber.whole g.C.EdgeCount.counts c.args.e.now) in
    c.compare_doubled-else-is_less.ensures ∙ ap (int_cmp (pos 2 *ℤ g.I.Wide.WideIntNumber.whole c.args.cross))
    (high_where_falls e _ _ (sym c.is_less.ensures ∙ c.if-is_less.false) c.minus-else-is_less.ensures
    c.minus-else-is_less-2.ensures)
