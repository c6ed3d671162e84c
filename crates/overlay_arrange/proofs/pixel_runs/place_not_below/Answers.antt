-- The edge passes above the middle point, so it does above those up to it.
use Rattle.std.proofs.Common.{◌+◌, ◌-◌, ◌/◌, ◌<◌, length, sym, subst, arith}
use Rattle.std.proofs.Math.Nat.{div-add-mod}
use Rattle.overlay_geom.specs.Points.{plain_point, plain_points}
use Rattle.overlay_geom.specs.declared.point.IntPoint.{IntPoint}
use Rattle.overlay_order.specs.Content.{plain_edge}
use Rattle.overlay_pairs.proofs.Entries.{placed_in_mapped}
use Rattle.overlay_arrange.specs.PixelRuns.{PassesAbove}
use Rattle.overlay_arrange.proofs.HeightRuns.{above_to, none_above}
use Rattle.overlay_arrange.proofs.pixel_runs.place_not_below.Goals as goal

pub loop-low-init : goal.loop-low-init
loop-low-init g c = let ordered = c.requires.ordered in (
  omega arith,
  omega (arith, ordered),
  omega arith,
  none_above (plain_edge g.I.IntNumber.whole g.C.EdgeCount.counts c.args.e.now) (g.I.IntNumber.whole c.args.x)
      (plain_points g.I.IntNumber.whole c.args.strip.now.points.now) c.args.strip.now.from c.args.strip.now.to,
)

pub loop-low-preserved-then-passes_above : goal.loop-low-preserved-then-passes_above
loop-low-preserved-then-passes_above g c =
    let whole = g.I.IntNumber.whole in
    let e = plain_edge whole g.C.EdgeCount.counts c.args.e.now in
    let strip = c.args.strip.now in
    let strips = strip.points.now in
    let ss = plain_points whole strips in
    let low = c.loop-low.low in
    let high = c.loop-low.high in
    let middle = low + (high - low) / 2 in
    let past = c.loop-low.invariant.0 in
    let up_to = c.loop-low.invariant.2 in
    let less = c.loop-low-test.true in
    let within = c.requires.within in
    let half = div-add-mod (high - low) 2 in
    let inside : middle < high = omega (arith, half, less) in
    let there : middle < length strips = omega (arith, inside, up_to, within) in
    let s = c.index-strip-middle.result in
    let at_s = placed_in_mapped (plain_point whole) strips middle s there c.index-strip-middle.is in (
      omega (arith, past),
      omega (arith, inside),
      omega (arith, up_to),
      above_to e (whole c.args.x) ss strip.from strip.to c.requires.upwards middle (plain_point whole s) at_s
          (omega (arith, inside, up_to))
          (subst (λ (t : IntPoint _). PassesAbove e (whole c.args.x) (whole t.y)) (sym c.index-strip-middle.is)
          (c.passes_above.ensures c.if-passes_above.true)),
    )
