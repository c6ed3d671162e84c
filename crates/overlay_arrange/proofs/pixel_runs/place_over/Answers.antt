-- Where the edge passes below one of them, so it does below those behind it.
use Rattle.std.proofs.Common.{◌<◌, length, sym, subst, arith}
use Rattle.overlay_geom.specs.Points.{plain_point, plain_points}
use Rattle.overlay_geom.specs.declared.point.IntPoint.{IntPoint}
use Rattle.overlay_order.specs.Content.{plain_edge}
use Rattle.overlay_pairs.proofs.Entries.{placed_in_mapped}
use Rattle.overlay_arrange.specs.PixelRuns.{PassesBelow}
use Rattle.overlay_arrange.proofs.HeightRuns.{below_from}
use Rattle.overlay_arrange.proofs.pixel_runs.place_over.Goals as goal

pub returns-then-passes_below-clause-above : goal.returns-then-passes_below-clause-above
returns-then-passes_below-clause-above g c =
    let whole = g.I.IntNumber.whole in
    let e = plain_edge whole g.C.EdgeCount.counts c.args.e.now in
    let strip = c.args.strip.now in
    let strips = strip.points.now in
    let at = c.loop-at.at in
    let less = c.loop-at-test.true in
    let within = c.requires.within in
    let there : at < length strips = omega (arith, less, within) in
    let s = c.index-strip-at.result in
    below_from e (whole c.args.x) (plain_points whole strips) strip.from strip.to c.requires.upwards at
    (plain_point whole s) (placed_in_mapped (plain_point whole) strips at s there c.index-strip-at.is)
    c.loop-at.invariant.0
    (subst (λ (t : IntPoint _). PassesBelow e (whole c.args.x) (whole t.y)) (sym c.index-strip-at.is)
    (c.passes_below.ensures c.if-passes_below.true))
