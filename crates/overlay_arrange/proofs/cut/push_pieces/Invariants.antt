-- The pieces so far and those of the steps to come make the whole, and the chain has come to a point in range. Whatever
-- adds the latter adds all.
use Rattle.std.proofs.Common.{◌≡◌, ◌++◌, List, [], ◌∷◌, map, drop}
use Rattle.std.specs.Prelude.{IsTrue}
use Rattle.overlay_geom.specs.Plane.{steps_through}
use Rattle.overlay_geom.specs.Points.{plain_point, plain_points, InRange}
use Rattle.overlay_plane.specs.Carried.{Carried, edges_in}
use Rattle.overlay_plane.specs.Cutting.{piece_along}
use Rattle.overlay_plane.specs.DerivedData.{GivesPiece}
use Rattle.overlay_order.specs.Content.{plain_edge, carried_edge}
use Rattle.overlay_parts.specs.Stores.{IsStoreReached}
use Rattle.overlay_arrange.specs.Cut.{AddsGiven}
use Rattle.overlay_arrange.proofs.cut.push_pieces.Given as goal

abbrev pub invariant-loop-to : goal.invariant-loop-to
invariant-loop-to g l =
    let at = plain_point g.I.IntNumber.whole in
    let e = plain_edge g.I.IntNumber.whole g.C.EdgeCount.counts l.e in
    (edges_in l.pieces ++ map (piece_along e)
    (steps_through (at l.from) (plain_points g.I.IntNumber.whole (drop l.to-index l.points) ++ e.b ∷ []))
    ≡ edges_in l.initial.pieces ++ map (piece_along e)
    (steps_through e.a (plain_points g.I.IntNumber.whole l.points ++ e.b ∷ [])))
    × InRange g.I.IntNumber.limit (at l.from)
    × ((new : List (Carried g.row.C.Denot)) →
    AddsGiven (GivesPiece g.C.EdgeCount.splits g.C.EdgeCount.reverses (IsTrue l.is_whole)
    (carried_edge g.I.IntNumber.whole g.C.EdgeCount.counts l.e))
    (steps_through (at l.from) (plain_points g.I.IntNumber.whole (drop l.to-index l.points) ++ e.b ∷ [])) l.pieces new →
    AddsGiven (GivesPiece g.C.EdgeCount.splits g.C.EdgeCount.reverses (IsTrue l.is_whole)
    (carried_edge g.I.IntNumber.whole g.C.EdgeCount.counts l.e))
    (steps_through e.a (plain_points g.I.IntNumber.whole l.points ++ e.b ∷ [])) l.initial.pieces new)
    × IsStoreReached g.C.EdgeCount.writes l.initial.store l.store
