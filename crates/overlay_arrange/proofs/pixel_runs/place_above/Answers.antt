-- The edge passes below the middle point, so it does below those from it on.
use Rattle.std.proofs.Common.{◌+◌, ◌-◌, ◌/◌, ◌<◌, length, sym, subst, arith}
use Rattle.std.proofs.Math.Nat.{div-add-mod}
use Rattle.overlay_geom.specs.Points.{plain_point, plain_points}
use Rattle.overlay_geom.specs.declared.point.IntPoint.{IntPoint}
use Rattle.overlay_order.specs.Content.{plain_edge}
use Rattle.overlay_pairs.proofs.Entries.{placed_in_mapped}
use Rattle.overlay_arrange.specs.PixelRuns.{PassesBelow}
use Rattle.overlay_arrange.proofs.HeightRuns.{below_from}
use Rattle.overlay_arrange.proofs.pixel_runs.place_above.Goals as goal

pub loop-low-init : goal.loop-low-init
loop-low-init g c = (
  omega arith,
  c.place_over-high.ensures.ordered,
  c.place_over-high.ensures.within,
  c.place_over-high.ensures.above,
)

pub loop-low-preserved-then-passes_below : goal.loop-low-preserved-then-passes_below
loop-low-preserved-then-passes_below g c =
    let whole = g.I.IntNumber.whole in
    let e = plain_edge whole g.C.EdgeCount.counts c.args.e.now in
    let strip = c.args.strip.now in
    let strips = strip.points.now in
    let ss = plain_points whole strips in
    let low = c.loop-low.low in
    let high = c.loop-low.high in
    let middle = low + (high - low) / 2 in
    let past = c.loop-low.invariant.0 in
    let up_to = c.loop-low.invariant.2 in
    let less = c.loop-low-test.true in
    let within = c.requires.within in
    let half = div-add-mod (high - low) 2 in
    let inside : middle < high = omega (arith, half, less) in
    let there : middle < length strips = omega (arith, inside, up_to, within) in
    let s = c.index-strip-middle.result in
    let at_s = placed_in_mapped (plain_point whole) strips middle s there c.index-strip-middle.is in (
      omega (arith, past),
      omega arith,
      omega (arith, inside, up_to),
      below_from e (whole c.args.x) ss strip.from strip.to c.requires.upwards middle (plain_point whole s) at_s
          (omega (arith, past))
          (subst (λ (t : IntPoint _). PassesBelow e (whole c.args.x) (whole t.y)) (sym c.index-strip-middle.is)
          (c.passes_below.ensures c.if-passes_below.true)),
    )
