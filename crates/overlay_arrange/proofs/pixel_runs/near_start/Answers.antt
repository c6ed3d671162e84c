-- The edge passes above the point before the guessed place, so it does above those up to it.
use Rattle.std.proofs.Common.{◌≡◌, ◌+◌, ◌-◌, ◌<◌, length, sym, ◌∙◌, subst, arith}
use Rattle.overlay_geom.specs.Points.{plain_point, plain_points}
use Rattle.overlay_geom.specs.declared.point.IntPoint.{IntPoint}
use Rattle.overlay_order.specs.Content.{plain_edge}
use Rattle.overlay_pairs.proofs.Entries.{placed_in_mapped}
use Rattle.overlay_arrange.specs.PixelRuns.{ArePassedAbove, PassesAbove}
use Rattle.overlay_arrange.proofs.HeightRuns.{above_to}
use Rattle.overlay_arrange.proofs.pixel_runs.near_start.Goals as goal
use Rattle.overlay_arrange.proofs.pixel_runs.near_start.Goals.{then-guess-strip, else-guess-strip}

pub returns-then-passes_above-clause-below : goal.returns-then-passes_above-clause-below
returns-then-passes_above-clause-below g c =
    let whole = g.I.IntNumber.whole in
    let e = plain_edge whole g.C.EdgeCount.counts c.args.e.now in
    let strip = c.args.strip.now in
    let strips = strip.points.now in
    let ss = plain_points whole strips in
    let guess = c.guessed_start-guess.result in
    elim c.if-guess-strip.branch [
      | then-guess-strip w ↦ λ k v past less. let same = w.if-guess-strip.true in
          absurd (omega (arith, past, less, same))
      | else-guess-strip w ↦
          let ordered = c.guessed_start-guess.ensures.ordered in
          let up_to = c.guessed_start-guess.ensures.within in
          let within = c.requires.within in
          let other = w.if-guess-strip.false in
          let some : strip.from < guess = omega (arith, ordered, other) in
          let there : guess - 1 < length strips = omega (arith, some, up_to, within) in
          let next : (guess - 1) + 1 ≡ guess = omega (arith, some) in
          let s = w.index-strip-guess.result in
          let at_s = placed_in_mapped (plain_point whole) strips (guess - 1) s there w.index-strip-guess.is in
          subst (ArePassedAbove e (whole c.args.x) ss strip.from) next
          (above_to e (whole c.args.x) ss strip.from strip.to c.requires.upwards (guess - 1) (plain_point whole s)
          at_s (omega (arith, some, up_to))
          (subst (λ (t : IntPoint _). PassesAbove e (whole c.args.x) (whole t.y)) (sym w.index-strip-guess.is)
          (w.passes_above.ensures (sym w.value-is ∙ c.if-passes_above.true))))
    ]
