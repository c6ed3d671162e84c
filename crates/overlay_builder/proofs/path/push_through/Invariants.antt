-- The edges so far and those of the steps to come make the whole, and the path has come to a point in range. They stay
-- a content.
use Rattle.std.proofs.Common.{◌≡◌, ◌++◌, [], ◌∷◌, map, take, drop, length, cond}
use Rattle.overlay_geom.specs.Plane.{steps_through}
use Rattle.overlay_geom.specs.Points.{plain_point, plain_points, InRange}
use Rattle.overlay_plane.specs.Carried.{edges_in}
use Rattle.overlay_order.specs.Content.{IsContent}
use Rattle.overlay_builder.specs.Paths.{passed_edge}
use Rattle.overlay_builder.proofs.path.push_through.Given as goal

abbrev pub invariant-loop-to : goal.invariant-loop-to
invariant-loop-to g l =
    let at = plain_point g.I.IntNumber.whole in
    let all = plain_points g.I.IntNumber.whole in
    let edge = passed_edge g.C.EdgeCount.counts l.passing in
    let end = cond l.is_closed (at l.first ∷ []) [] in
    (l.content ++ map edge (steps_through (at l.from) (all (drop l.to-index l.points) ++ end))
    ≡ l.initial.content ++ map edge (steps_through (at l.first) (all l.points ++ end)))
    × InRange g.I.IntNumber.limit (at l.from)
    × (take (length l.initial.content) l.content ≡ l.initial.content)
    × (IsContent g.I.IntNumber.limit (edges_in l.initial.content) → IsContent g.I.IntNumber.limit (edges_in l.content))
