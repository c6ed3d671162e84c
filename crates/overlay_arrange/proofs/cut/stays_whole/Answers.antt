-- A loop over the points: each is an end of the edge, or the answer is no.
use Rattle.std.proofs.Common.{refl, subst, All}
use Rattle.overlay_geom.specs.Points.{plain_point}
use Rattle.overlay_geom.proofs.Mapped.{mapped_whole, All-mapped_at, All-mapped_more}
use Rattle.overlay_order.specs.Content.{plain_edge}
use Rattle.overlay_arrange.specs.Cut.{IsEndOf}
use Rattle.overlay_arrange.proofs.cut.stays_whole.Goals as goal

pub returns-then-not-is_end_of : goal.returns-then-not-is_end_of
returns-then-not-is_end_of g c = (
  λ h. absurd (cc),
  λ all. c.if-not-is_end_of.ensures.1
      (All-mapped_at (IsEndOf (plain_edge g.I.IntNumber.whole g.C.EdgeCount.counts c.args.e.now))
      (plain_point g.I.IntNumber.whole) c.args.points.now c.loop-v.v-index c.v-item.result
      c.loop-v-test.true c.v-item.is all),
)

pub loop-v-preserved : goal.loop-v-preserved
loop-v-preserved g c =
    All-mapped_more (IsEndOf (plain_edge g.I.IntNumber.whole g.C.EdgeCount.counts c.args.e.now))
    (plain_point g.I.IntNumber.whole) c.args.points.now c.loop-v.v-index c.v-item.result
    c.loop-v-test.true c.v-item.is c.loop-v.invariant (c.if-not-is_end_of.ensures.0 refl)

pub returns : goal.returns
returns g c = (
  λ _. subst (All (IsEndOf (plain_edge g.I.IntNumber.whole g.C.EdgeCount.counts c.args.e.now)))
      (mapped_whole (plain_point g.I.IntNumber.whole) c.args.points.now c.loop-v.v-index c.loop-v-test.false)
      c.loop-v.invariant,
  λ _. refl,
)
