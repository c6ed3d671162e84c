-- The test reads the two comparisons.
use Rattle.std.proofs.Common.{◌∙◌}
use Rattle.overlay_geom.specs.Edges.{ends_of}
use Rattle.overlay_geom.specs.Points.{plain_point}
use Rattle.overlay_order.specs.Content.{plain_edge}
use Rattle.overlay_arrange.proofs.PixelBounds.{bounds_tell}
use Rattle.overlay_arrange.proofs.pixel.line_meets.Goals as goal

pub returns : goal.returns
returns g c =
    let e = ends_of (plain_edge g.I.IntNumber.whole g.C.EdgeCount.counts c.args.e.now) in
    c.is_between.ensures
    ∙ bounds_tell e (plain_point g.I.IntNumber.whole c.args.v) _ c.cross_at-cross.ensures.value _ _
    c.order_to_low-low.ensures c.order_to_high-high.ensures c.is_less.result c.is_less-2.result c.is_less.ensures
    c.is_less-2.ensures
