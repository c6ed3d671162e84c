-- The products of the widened coordinates are exact, and so is their difference.
use Rattle.std.proofs.Common.{lit<, lit≤}
use Rattle.overlay_geom.proofs.Widths.{Exact-widened, Exact-times, IsCross, IsCross-minus, cross_at, Within-weaker}
use Rattle.overlay_geom.proofs.number.coordinate.I32IntNumber.cross.Goals as goal
use mir.Syntax.{w32, w64}

-- the program computes the cross product
crossed : (c : goal.After-from-4) → IsCross w64 2147483646 c.args.ax c.args.ay c.args.bx c.args.by
    (cross_at w64 c.from.result c.from-2.result c.from-3.result c.from-4.result)
crossed c = IsCross-minus w64 _ _ _ _ _ _ _ (lit< tt)
    (Exact-times w64 _ _ _ _ _ (lit< tt)
    (Exact-widened w32 w64 _ _ _ (lit< tt) c.ranges.ax c.requires.ax c.from.ensures)
    (Exact-widened w32 w64 _ _ _ (lit< tt) c.ranges.by c.requires.by c.from-2.ensures))
    (Exact-times w64 _ _ _ _ _ (lit< tt)
    (Exact-widened w32 w64 _ _ _ (lit< tt) c.ranges.ay c.requires.ay c.from-3.ensures)
    (Exact-widened w32 w64 _ _ _ (lit< tt) c.ranges.bx c.requires.bx c.from-4.ensures))

pub overflow_sub-result : goal.overflow_sub-result
overflow_sub-result c = (crossed c).fits

pub returns-clause-value : goal.returns-clause-value
returns-clause-value c = (crossed c).exact.same

pub returns-clause-fits : goal.returns-clause-fits
returns-clause-fits c = rw (crossed c).exact.same (Within-weaker _ _ _ (lit≤ tt) (crossed c).exact.within)
