-- The abscissas so far lie between the two.
use Rattle.std.proofs.Common.{take}
use Rattle.overlay_geom.specs.Points.{plain_points}
use Rattle.overlay_relate.specs.Runs.{IsSpan}
use Rattle.overlay_relate.proofs.runs.span_of.Given as goal

abbrev pub invariant-loop-p : goal.invariant-loop-p
invariant-loop-p g l =
    let whole = g.I.IntNumber.whole in
    IsSpan (plain_points whole (take l.p-index l.points)) (whole l.low) (whole l.high)
