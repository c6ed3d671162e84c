-- The steps to come decide.
use Rattle.std.proofs.Common.{◌↔◌, ◌++◌, ◌∷◌, [], drop}
use Rattle.overlay_geom.specs.Points.{plain_point, plain_points, InRange}
use Rattle.overlay_geom.specs.Resolved.{edges_through, AreApart}
use Rattle.overlay_geom.proofs.resolved.is_round_resolved.Given as goal

abbrev pub invariant-loop-i : goal.invariant-loop-i
invariant-loop-i g l =
    let whole = g.I.IntNumber.whole in
    let first = plain_point whole l.first in
    InRange g.I.IntNumber.limit (plain_point whole l.from)
    × (AreApart (edges_through (plain_point whole l.from) (plain_points whole (drop l.i l.contour) ++ first ∷ []))
    ↔ AreApart (edges_through first (plain_points whole l.contour ++ first ∷ [])))
