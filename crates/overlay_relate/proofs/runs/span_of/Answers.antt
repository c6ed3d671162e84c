-- One point more lies between them.
use Rattle.std.proofs.Common.{take, sym, subst}
use Rattle.overlay_geom.specs.Points.{plain_point, plain_points}
use Rattle.overlay_geom.proofs.Mapped.{mapped_more, mapped_whole}
use Rattle.overlay_relate.specs.Runs.{IsSpan}
use Rattle.overlay_relate.proofs.RunsOver.{spans_none, spans_more}
use Rattle.overlay_relate.proofs.runs.span_of.Goals as goal

pub loop-p-init : goal.loop-p-init
loop-p-init g c = spans_none (g.I.IntNumber.whole c.args.x)

pub loop-p-preserved : goal.loop-p-preserved
loop-p-preserved g c =
    let whole = g.I.IntNumber.whole in
    subst (λ ps. IsSpan ps (whole c.lesser-low.result) (whole c.greater-high.result))
    (sym (mapped_more (plain_point whole) c.args.points.now c.loop-p.p-index c.p-item.result c.loop-p-test.true
    c.p-item.is))
    (spans_more (plain_points whole (take c.loop-p.p-index c.args.points.now)) (plain_point whole c.p-item.result)
    (whole c.loop-p.low) (whole c.loop-p.high) (whole c.lesser-low.result) (whole c.greater-high.result)
    c.loop-p.invariant
    c.lesser-low.ensures.first c.lesser-low.ensures.second c.greater-high.ensures.first c.greater-high.ensures.second)

pub returns : goal.returns
returns g c =
    let whole = g.I.IntNumber.whole in
    subst (λ ps. IsSpan ps (whole c.loop-p.low) (whole c.loop-p.high))
    (mapped_whole (plain_point whole) c.args.points.now c.loop-p.p-index c.loop-p-test.false) c.loop-p.invariant
