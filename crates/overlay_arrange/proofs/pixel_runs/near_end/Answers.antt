-- The edge passes below the point at the guessed place, so it does below those from it on.
use Rattle.std.proofs.Common.{◌<◌, length, sym, ◌∙◌, subst, arith}
use Rattle.overlay_geom.specs.Points.{plain_point, plain_points}
use Rattle.overlay_geom.specs.declared.point.IntPoint.{IntPoint}
use Rattle.overlay_order.specs.Content.{plain_edge}
use Rattle.overlay_pairs.proofs.Entries.{placed_in_mapped}
use Rattle.overlay_arrange.specs.PixelRuns.{PassesBelow}
use Rattle.overlay_arrange.proofs.HeightRuns.{below_from}
use Rattle.overlay_arrange.proofs.pixel_runs.near_end.Goals as goal
use Rattle.overlay_arrange.proofs.pixel_runs.near_end.Goals.{then-guess-strip, else-guess-strip}

pub returns-then-passes_below-clause-above : goal.returns-then-passes_below-clause-above
returns-then-passes_below-clause-above g c =
    let whole = g.I.IntNumber.whole in
    let e = plain_edge whole g.C.EdgeCount.counts c.args.e.now in
    let strip = c.args.strip.now in
    let strips = strip.points.now in
    let ss = plain_points whole strips in
    let guess = c.guessed_end-guess.result in
    elim c.if-guess-strip.branch [
      | then-guess-strip w ↦ λ k v past less. let same = w.if-guess-strip.true in
          absurd (omega (arith, past, less, same))
      | else-guess-strip w ↦
          let up_to = c.guessed_end-guess.ensures.within in
          let within = c.requires.within in
          let other = w.if-guess-strip.false in
          let there : guess < length strips = omega (arith, other, up_to, within) in
          let s = w.index-strip-guess.result in
          below_from e (whole c.args.x) ss strip.from strip.to c.requires.upwards guess (plain_point whole s)
          (placed_in_mapped (plain_point whole) strips guess s there w.index-strip-guess.is)
          c.guessed_end-guess.ensures.ordered
          (subst (λ (t : IntPoint _). PassesBelow e (whole c.args.x) (whole t.y)) (sym w.index-strip-guess.is)
          (w.passes_below.ensures (sym w.value-is ∙ c.if-passes_below.true)))
    ]
