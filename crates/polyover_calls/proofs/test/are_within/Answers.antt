-- The coordinates are in range exactly where the walk meets none that is out of range.
use Rattle.std.proofs.Common.{All, refl, subst}
use Rattle.std.proofs.lemmas.Bool.{iff_false, false≢true}
use Rattle.overlay_geom.specs.Numbers.{Within}
use Rattle.overlay_geom.proofs.Mapped.{mapped_whole, All-mapped_at, All-mapped_more}
use Rattle.polyover_calls.proofs.test.are_within.Goals as goal

pub returns-then-not-is_in_range : goal.returns-then-not-is_in_range
returns-then-not-is_in_range g c = (
  λ no. absurd (false≢true no),
  λ all. absurd (iff_false c.is_in_range.ensures c.if-not-is_in_range.true
      (All-mapped_at (Within g.I.IntNumber.limit) g.I.IntNumber.whole c.args.coordinates.now _ _
      c.loop-coordinate-test.true c.coordinate-item.is all)),
)

pub loop-coordinate-preserved : goal.loop-coordinate-preserved
loop-coordinate-preserved g c =
    All-mapped_more (Within g.I.IntNumber.limit) g.I.IntNumber.whole c.args.coordinates.now
    c.loop-coordinate.coordinate-index c.coordinate-item.result
    c.loop-coordinate-test.true c.coordinate-item.is c.loop-coordinate.invariant
    (c.is_in_range.ensures.0 c.if-not-is_in_range.false)

pub returns : goal.returns
returns g c = (
  λ _. subst (All (Within g.I.IntNumber.limit))
      (mapped_whole g.I.IntNumber.whole c.args.coordinates.now c.loop-coordinate.coordinate-index
      c.loop-coordinate-test.false)
      c.loop-coordinate.invariant,
  λ _. refl,
)
