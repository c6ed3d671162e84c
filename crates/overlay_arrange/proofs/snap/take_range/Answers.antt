-- The points of the range are copied.
use Rattle.std.proofs.Common.{◌++◌, slice_range, ap, ◌∙◌}
use Rattle.overlay_geom.specs.Points.{plain_point, plain_points}
use Rattle.overlay_geom.proofs.Mapped.{mapped_range}
use Rattle.overlay_arrange.proofs.snap.take_range.Goals as goal

pub returns : goal.returns
returns g c = record {
  ok = let whole = g.I.IntNumber.whole in
      ap (plain_points whole) (c.in_ok-extend_from_slice.ensures.items
      ∙ ap (λ l. l ++ slice_range c.args.hot.now c.args.low c.args.high) c.clear.ensures.items)
      ∙ mapped_range (plain_point whole) c.args.hot.now c.args.low c.args.high;
}
