-- The next piece moves from the pieces to come to those done, and a heavy beginning makes a heavy whole.
use Rattle.std.proofs.Common.{◌≤◌, ◌+◌, ◌++◌, [], ◌∷◌, map, drop, length, List, refl, sym, subst, ◌∙◌, rules}
use Rattle.std.specs.Prelude.{IsTrue}
use Rattle.std.proofs.lemmas.List.{at_drop_all}
use Rattle.std.proofs.lemmas.Result.{on_ok_weaker}
use Rattle.overlay_geom.specs.Edges.{CountedEdge, weight}
use Rattle.overlay_geom.specs.Plane.{Step, steps_between, steps_through}
use Rattle.overlay_geom.specs.Points.{plain_point, plain_points, InRange}
use Rattle.overlay_geom.specs.declared.point.IntPoint.{IntPoint}
use Rattle.overlay_geom.proofs.Mapped.{mapped_rest, All-mapped_at}
use Rattle.overlay_plane.specs.Carried.{edges_in}
use Rattle.overlay_plane.specs.Cutting.{piece_along}
use Rattle.overlay_plane.specs.DerivedData.{GivesPiece}
use Rattle.overlay_order.specs.Content.{plain_edge, carried_edge}
use Rattle.overlay_parts.specs.Stores.IsStoreReached.{unwritten}
use Rattle.overlay_parts.proofs.ReachedStores.{reached_on}
use Rattle.overlay_arrange.specs.Cut.{AddsGiven, StaysWhole}
use Rattle.overlay_arrange.proofs.Adding.{push-next, push-last}
use Rattle.overlay_arrange.proofs.CarriedPieces.{adds_alike, adds_both, adds_none}
use Rattle.overlay_arrange.proofs.Pieces.{heavy_beginning}
use Rattle.overlay_arrange.proofs.cut.push_pieces.Goals as goal

pub push_piece-requires-clause-to : goal.push_piece-requires-clause-to
push_piece-requires-clause-to g c =
    All-mapped_at (InRange g.I.IntNumber.limit) (plain_point g.I.IntNumber.whole) c.args.points.now c.loop-to.to-index
    c.to-item.result c.loop-to-test.true c.to-item.is c.requires.points

pub loop-to-preserved : goal.loop-to-preserved
loop-to-preserved g c =
    let at = plain_point g.I.IntNumber.whole in
    let e = plain_edge g.I.IntNumber.whole g.C.EdgeCount.counts c.args.e.now in
    let rest = plain_points g.I.IntNumber.whole (drop (c.loop-to.to-index + 1) c.args.points.now) ++ e.b ∷ [] in
    let next =
    mapped_rest at c.args.points.now c.loop-to.to-index c.to-item.result c.loop-to-test.true c.to-item.is in (
      push-next (piece_along e) (at c.loop-to.from) (at c.to-item.result) rest (edges_in c.loop-to.pieces) _ _
          (rw next at c.loop-to.invariant.0) c.in_ok-push_piece.ensures.ok,
      All-mapped_at (InRange g.I.IntNumber.limit) at c.args.points.now c.loop-to.to-index c.to-item.result
          c.loop-to-test.true c.to-item.is c.requires.points,
      λ new adds. (rw next at c.loop-to.invariant.2) new
          (adds_both (GivesPiece g.C.EdgeCount.splits g.C.EdgeCount.reverses (IsTrue c.stays_whole-is_whole.result)
          (carried_edge g.I.IntNumber.whole g.C.EdgeCount.counts c.args.e.now))
          c.in_ok-push_piece.ensures.carried adds),
      reached_on g.C.EdgeCount.writes _ _ _ c.loop-to.invariant.3 c.in_ok-push_piece.ensures.store,
    )

pub returns-in_err-push_piece-clause-too_many : goal.returns-in_err-push_piece-clause-too_many
returns-in_err-push_piece-clause-too_many g c =
    let at = plain_point g.I.IntNumber.whole in
    let e = plain_edge g.I.IntNumber.whole g.C.EdgeCount.counts c.args.e.now in
    let rest = plain_points g.I.IntNumber.whole (drop (c.loop-to.to-index + 1) c.args.points.now) ++ e.b ∷ [] in
    let next = mapped_rest at c.args.points.now c.loop-to.to-index c.to-item.result c.loop-to-test.true c.to-item.is in
    let part = edges_in c.loop-to.pieces ++ map (piece_along e)
    (steps_between (at c.loop-to.from) (at c.to-item.result)) in
    let all = push-next (piece_along e) (at c.loop-to.from) (at c.to-item.result) rest (edges_in c.loop-to.pieces) part
    _ (rw next at c.loop-to.invariant.0) refl in
    λ refused. heavy_beginning 2147483648 part (map (piece_along e) (steps_through (at c.to-item.result) rest)) _ all
    (c.push_piece.ensures.too_many (search rules))

pub returns-clause-ok : goal.returns-clause-ok
returns-clause-ok g c =
    let at = plain_point g.I.IntNumber.whole in
    let e = plain_edge g.I.IntNumber.whole g.C.EdgeCount.counts c.args.e.now in
    let past : length c.args.points.now ≤ c.loop-to.to-index = search rules in
    let none = at_drop_all (λ (ps : List (IntPoint _)). edges_in c.loop-to.pieces
    ++ map (piece_along e) (steps_through (at c.loop-to.from) (plain_points g.I.IntNumber.whole ps ++ e.b ∷ [])))
    c.args.points.now c.loop-to.to-index past in
    on_ok_weaker c.push_piece-2.result
    (push-last (piece_along e) (at c.loop-to.from) e.b (edges_in c.loop-to.pieces) (edges_in c.push_piece-2.new.pieces)
    (edges_in c.args.pieces.now ++ map (piece_along e)
    (steps_through e.a (plain_points g.I.IntNumber.whole c.args.points.now ++ e.b ∷ [])))
    (sym none ∙ c.loop-to.invariant.0))
    c.push_piece-2.ensures.ok

pub returns-clause-too_many : goal.returns-clause-too_many
returns-clause-too_many g c =
    let at = plain_point g.I.IntNumber.whole in
    let e = plain_edge g.I.IntNumber.whole g.C.EdgeCount.counts c.args.e.now in
    let past : length c.args.points.now ≤ c.loop-to.to-index = search rules in
    let none = at_drop_all (λ (ps : List (IntPoint _)). edges_in c.loop-to.pieces
    ++ map (piece_along e) (steps_through (at c.loop-to.from) (plain_points g.I.IntNumber.whole ps ++ e.b ∷ [])))
    c.args.points.now c.loop-to.to-index past in
    let all = push-last (piece_along e) (at c.loop-to.from) e.b (edges_in c.loop-to.pieces)
    (edges_in c.loop-to.pieces ++ map (piece_along e) (steps_between (at c.loop-to.from) e.b))
    (edges_in c.args.pieces.now ++ map (piece_along e)
    (steps_through e.a (plain_points g.I.IntNumber.whole c.args.points.now ++ e.b ∷ [])))
    (sym none ∙ c.loop-to.invariant.0) refl in
    λ refused. subst (λ (es : List CountedEdge). 2147483648 ≤ weight es) all (c.push_piece-2.ensures.too_many refused)

pub returns-clause-carried : goal.returns-clause-carried
returns-clause-carried g c =
    let at = plain_point g.I.IntNumber.whole in
    let e = plain_edge g.I.IntNumber.whole g.C.EdgeCount.counts c.args.e.now in
    let x = carried_edge g.I.IntNumber.whole g.C.EdgeCount.counts c.args.e.now in
    let splits = g.C.EdgeCount.splits in
    let reverses = g.C.EdgeCount.reverses in
    let gives = GivesPiece splits reverses (IsTrue c.stays_whole-is_whole.result) x in
    let past : length c.args.points.now ≤ c.loop-to.to-index = search rules in
    let none = at_drop_all (λ (ps : List (IntPoint _)). steps_through (at c.loop-to.from)
    (plain_points g.I.IntNumber.whole ps ++ e.b ∷ []))
    c.args.points.now c.loop-to.to-index past in
    on_ok_weaker c.push_piece-2.result
    (λ adds. adds_alike splits reverses (IsTrue c.stays_whole-is_whole.result)
    (StaysWhole e (plain_points g.I.IntNumber.whole c.args.points.now)) c.stays_whole-is_whole.ensures x
    (c.loop-to.invariant.2 c.push_piece-2.new.pieces
    (subst (λ (ss : List Step). AddsGiven gives ss c.loop-to.pieces c.push_piece-2.new.pieces) (sym none)
    (adds_both gives adds (adds_none gives c.push_piece-2.new.pieces)))))
    c.push_piece-2.ensures.carried

pub loop-to-init : goal.loop-to-init
loop-to-init g c = (refl, c.requires.held.a_in_range, λ new adds. adds, unwritten _)

pub returns-in_err-push_piece-clause-store : goal.returns-in_err-push_piece-clause-store
returns-in_err-push_piece-clause-store g c =
    reached_on g.C.EdgeCount.writes _ _ _ c.loop-to.invariant.3 c.in_err-push_piece.ensures.store

pub returns-clause-store : goal.returns-clause-store
returns-clause-store g c =
    reached_on g.C.EdgeCount.writes _ _ _ c.loop-to.invariant.3 c.push_piece-2.ensures.store
