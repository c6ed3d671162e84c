-- The width and the height together, negated, are the sum of two differences of coordinates.
use Rattle.std.proofs.Common.{pos, ◌*ℤ◌, ap, sym, ◌∙◌}
use Rattle.std.specs.Ordering.{int_cmp}
use Rattle.overlay_geom.specs.Edges.{ends_of}
use Rattle.overlay_geom.proofs.Widths.{Within-minus}
use Rattle.overlay_order.specs.Content.{plain_edge}
use Rattle.overlay_arrange.proofs.PixelBounds.{low_where_falls, low_where_rises}
use Rattle.overlay_arrange.proofs.pixel.order_to_low.Goals as goal

pub compare_doubled-requires-clause-x : goal.compare_doubled-requires-clause-x
compare_doubled-requires-clause-x g c = Within-minus _ _ _ _ c.requires.a_in_range.x c.requires.b_in_range.x
    c.minus.ensures

pub compare_doubled-requires-clause-y : goal.compare_doubled-requires-clause-y
compare_doubled-requires-clause-y g c = Within-minus _ _ _ _ c.requires.a_in_range.y c.requires.b_in_range.y
    c.minus-then-is_less.ensures

pub compare_doubled-requires-else-is_less-clause-x : goal.compare_doubled-requires-else-is_less-clause-x
compare_doubled-requires-else-is_less-clause-x g c = Within-minus _ _ _ _ c.requires.a_in_range.x
    c.requires.b_in_range.x c.minus-else-is_less.ensures

pub compare_doubled-requires-else-is_less-clause-y : goal.compare_doubled-requires-else-is_less-clause-y
compare_doubled-requires-else-is_less-clause-y g c = Within-minus _ _ _ _ c.requires.b_in_range.y
    c.requires.a_in_range.y c.minus-else-is_less-2.ensures

pub returns-then-is_less : goal.returns-then-is_less
returns-then-is_less g c =
    let e = ends_of (plain_edge g.I.IntNumber.whole g.C.EdgeCount.counts c.args.e.now) in
    c.compare_doubled.ensures ∙ ap (int_cmp (pos 2 *ℤ g.I.Wide.WideIntNumber.whole c.args.cross))
    (low_where_rises e _ _ (sym c.is_less.ensures ∙ c.if-is_less.true) c.minus.ensures c.minus-then-is_less.ensures)

pub returns-else-is_less : goal.returns-else-is_less
returns-else-is_less g c =
    let e = ends_of (plain_edge g.I.IntNumber.whole g.C.EdgeCount.counts c.args.e.now) in
    c.compare_doubled-else-is_less.ensures ∙ ap (int_cmp (pos 2 *ℤ g.I.Wide.WideIntNumber.whole c.args.cross))
    (low_where_falls e _ _ (sym c.is_less.ensures ∙ c.if-is_less.false) c.minus-else-is_less.ensures
    c.minus-else-is_less-2.ensures)
