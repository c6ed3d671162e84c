-- The points are in range exactly where the walk meets none that is out of range.
use Rattle.std.proofs.Common.{refl, subst}
use Rattle.std.proofs.lemmas.Bool.{iff_false, false≢true}
use Rattle.overlay_geom.specs.Points.{plain_point, InRange, AllInRange}
use Rattle.overlay_geom.proofs.Mapped.{mapped_whole, All-mapped_at, All-mapped_more}
use Rattle.overlay_geom.proofs.point.in_range.Goals as goal

pub returns-then-not-is_in_range : goal.returns-then-not-is_in_range
returns-then-not-is_in_range g c = (
  λ no. absurd (false≢true no),
  λ all. absurd (iff_false c.is_in_range.ensures c.if-not-is_in_range.true
      (All-mapped_at (InRange g.I.IntNumber.limit) (plain_point g.I.IntNumber.whole) c.args.points.now _ _
      c.loop-p-test.true c.p-item.is all)),
)

pub loop-p-preserved : goal.loop-p-preserved
loop-p-preserved g c =
    All-mapped_more (InRange g.I.IntNumber.limit) (plain_point g.I.IntNumber.whole) c.args.points.now c.loop-p.p-index
    c.p-item.result
    c.loop-p-test.true c.p-item.is c.loop-p.invariant (c.is_in_range.ensures.0 c.if-not-is_in_range.false)

pub returns : goal.returns
returns g c = (
  λ _. subst (AllInRange g.I.IntNumber.limit)
      (mapped_whole (plain_point g.I.IntNumber.whole) c.args.points.now c.loop-p.p-index c.loop-p-test.false)
      c.loop-p.invariant,
  λ _. refl,
)
