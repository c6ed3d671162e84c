-- The steps to come decide.
use Rattle.std.proofs.Common.{◌↔◌, ◌++◌, ◌∷◌, [], All, drop}
use Rattle.overlay_geom.specs.Points.{plain_point, plain_points, InRange}
use Rattle.overlay_geom.specs.Resolved.{plain_edge, edges_through}
use Rattle.overlay_geom.specs.Settled.{MeetInEnds}
use Rattle.overlay_geom.proofs.resolved.meets_steps.Given as goal

abbrev pub invariant-loop-to : goal.invariant-loop-to
invariant-loop-to g l =
    let whole = g.I.IntNumber.whole in
    let last = plain_point whole l.last in
    let P = MeetInEnds (plain_edge whole l.e) in
    InRange g.I.IntNumber.limit (plain_point whole l.from)
    × (All P (edges_through (plain_point whole l.from) (plain_points whole (drop l.to-index l.points) ++ last ∷ []))
    ↔ All P (edges_through (plain_point whole l.fn.start) (plain_points whole l.points ++ last ∷ [])))
