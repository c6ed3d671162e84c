-- The sum so far is the part of the double area from point i on.
use Rattle.std.proofs.Common.{◌≡◌, ◌≤◌, length, drop}
use Rattle.std.specs.Int.{int_wrap}
use Rattle.overlay_geom.specs.Plane.{points_of}
use Rattle.overlay_geom.specs.Points.{plain_point, InRange}
use Rattle.overlay_plane.proofs.Areas.{next_in, rest_sum}
use Rattle.overlay_walk.specs.Steps.{plain_steps}
use Rattle.overlay_walk.proofs.area.double_area.Given as goal

abbrev pub invariant-loop-i : goal.invariant-loop-i
invariant-loop-i g l =
    let whole = g.I.IntNumber.whole in
    let first = plain_point whole l.initial.next in
    let rest = drop l.i (points_of (plain_steps whole l.walk)) in
    (l.i ≤ length l.walk)
    × InRange g.I.IntNumber.limit (plain_point whole l.next)
    × (next_in first rest ≡ plain_point whole l.next)
    × (g.I.Wide.WideIntNumber.whole l.sum ≡ int_wrap g.I.Wide.WideIntNumber.width (rest_sum first rest))

abbrev pub decreases-loop-i : goal.decreases-loop-i
decreases-loop-i g l = l.i
