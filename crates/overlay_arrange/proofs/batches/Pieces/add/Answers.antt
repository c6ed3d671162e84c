-- The pieces are added, and joined then; no weight is lost.
use Rattle.std.proofs.Common.{◌*◌, List, [], ◌∷◌, ◌++◌, length, ap, refl, ◌∙◌, subst, arith}
use Rattle.std.proofs.Math.Nat.{lt_of_not-le}
use Rattle.std.proofs.lemmas.Bool.{false≢true}
use Rattle.std.proofs.lemmas.Result.{err_from_is_err_and}
use Rattle.overlay_geom.specs.Edges.{weight}
use Rattle.overlay_geom.specs.Plane.{steps_through}
use Rattle.overlay_geom.specs.Points.{plain_points}
use Rattle.overlay_plane.specs.Carried.{Carried, edges_in}
use Rattle.overlay_order.specs.Content.{plain_edge}
use Rattle.overlay_parts.proofs.ReachedStores.{reached_on}
use Rattle.overlay_arrange.specs.Batches.{StandFor}
use Rattle.overlay_arrange.proofs.AddedPieces.{away_added, heavy_added, heavy_pushed, weighed_added}
use Rattle.overlay_arrange.proofs.batches.Pieces.add.Goals as goal

pub returns-clause-carried : goal.returns-clause-carried
returns-clause-carried g c =
    let adds = c.in_ok-push_pieces.ensures.carried in
    record {
      more = adds.more;
      given = adds.given;
      stands = subst (λ xs. StandFor g.C.EdgeCount.merges xs c.join_if_many.new.self.content)
          (c.put_away.ensures.pieces ∙ adds.added) c.in_ok-join_if_many.ensures.ok;
    }

pub returns-clause-weighed : goal.returns-clause-weighed
returns-clause-weighed g c =
    let whole = plain_edge g.I.IntNumber.whole g.C.EdgeCount.counts c.args.e.now in
    let steps = steps_through whole.a (plain_points g.I.IntNumber.whole c.args.points.now ++ whole.b ∷ []) in
    let away = away_added whole steps c.args.self.now.content c.push_pieces.new.pieces c.in_ok-push_pieces.ensures.ok
    c.len-count.result c.len.result c.len-count.ensures c.len.ensures c.args.hidden c.args.self.now.away
    c.put_away.new.self.away c.in_ok-put_away.ensures.ok in
    weighed_added _ _ _ _ _ _ _ (c.args.hidden * length steps) (ap weight c.in_ok-push_pieces.ensures.ok)
    (ap (λ (xs : List (Carried g.row.C.Denot)). weight (edges_in xs)) c.in_ok-put_away.ensures.pieces) away
    c.in_ok-join_if_many.ensures.weighed

-- what is refused weighs too much
pub returns-in_err-push_pieces-clause-too_many : goal.returns-in_err-push_pieces-clause-too_many
returns-in_err-push_pieces-clause-too_many g c = λ same.
    let passed = err_from_is_err_and c.from_residual.result c.from_residual.ensures.1 in
    let heavy = c.in_err-push_pieces.ensures.too_many (cc) in
    omega (arith, heavy)

pub returns-in_err-put_away-clause-too_many : goal.returns-in_err-put_away-clause-too_many
returns-in_err-put_away-clause-too_many g c = λ same.
    let passed = err_from_is_err_and c.from_residual-in_err-put_away.result c.from_residual-in_err-put_away.ensures.1 in
    let whole = plain_edge g.I.IntNumber.whole g.C.EdgeCount.counts c.args.e.now in
    let steps = steps_through whole.a (plain_points g.I.IntNumber.whole c.args.points.now ++ whole.b ∷ []) in
    heavy_added whole steps c.args.self.now.content c.push_pieces.new.pieces c.in_ok-push_pieces.ensures.ok
    c.len-count.result c.len.result c.len-count.ensures c.len.ensures c.args.hidden c.args.self.now.away _ 2147483648
    (c.in_err-put_away.ensures.too_many (cc))

pub returns-then-reaches_limit-clause-too_many : goal.returns-then-reaches_limit-clause-too_many
returns-then-reaches_limit-clause-too_many g c = λ same.
    let whole = plain_edge g.I.IntNumber.whole g.C.EdgeCount.counts c.args.e.now in
    let steps = steps_through whole.a (plain_points g.I.IntNumber.whole c.args.points.now ++ whole.b ∷ []) in
    let away = away_added whole steps c.args.self.now.content c.push_pieces.new.pieces c.in_ok-push_pieces.ensures.ok
    c.len-count.result c.len.result c.len-count.ensures c.len.ensures c.args.hidden c.args.self.now.away
    c.put_away.new.self.away c.in_ok-put_away.ensures.ok in
    heavy_pushed _ _ _ _ _ _ (c.args.hidden * length steps) 2147483648 (ap weight c.in_ok-push_pieces.ensures.ok)
    (ap (λ (xs : List (Carried g.row.C.Denot)). weight (edges_in xs)) c.in_ok-put_away.ensures.pieces) away
    c.weight.ensures.weight (c.if-reaches_limit.ensures.0 refl)

-- the store is reached by adding and joining
pub returns-clause-store : goal.returns-clause-store
returns-clause-store g c =
    reached_on g.C.EdgeCount.writes _ _ _ c.in_ok-push_pieces.ensures.store c.in_ok-join_if_many.ensures.store

pub returns-in_err-join_if_many-clause-store : goal.returns-in_err-join_if_many-clause-store
returns-in_err-join_if_many-clause-store g c =
    reached_on g.C.EdgeCount.writes _ _ _ c.in_ok-push_pieces.ensures.store c.in_err-join_if_many.ensures.store

-- what is not refused is light
pub join_if_many-requires : goal.join_if_many-requires
join_if_many-requires g c =
    let light = lt_of_not-le (λ heavy. false≢true (c.if-reaches_limit.ensures.1 heavy)) in
    let held = c.weight.ensures.weight in
    omega (arith, light, held)

pub returns-clause-light : goal.returns-clause-light
returns-clause-light g c =
    let light = lt_of_not-le (λ heavy. false≢true (c.if-reaches_limit.ensures.1 heavy)) in
    let held = c.weight.ensures.weight in
    let kept = c.in_ok-join_if_many.ensures.weighed in
    omega (arith, light, held, kept)
