-- Each edge is added after those before it; where one is refused those before it stay.
use Rattle.std.proofs.Common.{◌≡◌, ◌<◌, ◌^◌, false, ◌∷◌, ◌++◌, [], Err, inr, rules, refl, sym, ap, subst}
use Rattle.std.proofs.iter.Next.{Yields-more}
use Rattle.std.proofs.lemmas.List.Elements.{All-pop}
use Rattle.std.proofs.lemmas.Result.{err_from_is_err_and}
use Rattle.std.specs.Iterator.{Yields}
use Rattle.std.specs.Prelude.{Some}
use Rattle.std.specs.Ordering.{is_le}
use Rattle.overlay_geom.specs.Edges.{weight}
use Rattle.overlay_geom.specs.Points.{plain_point}
use Rattle.overlay_geom.specs.Resolved.{point_cmp}
use Rattle.overlay_plane.specs.Carried.{edges_in}
use Rattle.overlay_parts.specs.Stores.{IsStoreReached}
use Rattle.overlay_parts.proofs.ReachedStores.{never_written, reached_on, reached_unless}
use Rattle.overlay_vector.specs.AddedEdges.{IsEdgeInRange, StopsAtEdge}
use Rattle.overlay_vector.proofs.EdgesAdded.{none_added, one_more_added, stops_here}
use Rattle.overlay_vector.proofs.edge_overlay.EdgeOverlay.add_edges.Goals as goal

pub loop-edge-init : goal.loop-edge-init
loop-edge-init g c =
    let ready : c.args.self.now.failed ≡ false = search rules in
    let same : c.into_iter-edge-iterator.result ≡ c.args.iter = search rules in (
      subst g.P.Iterator.can_next (sym same) c.requires.can,
      search rules,
      none_added g.I.IntNumber.whole c.args.shape_type g.D.OverlayEdgeData.reverses c.args.self.now ready
          (subst (λ b. weight (edges_in b.edges) < 2 ^ 31) c.self.view_is c.check_usable.ensures.content.light),
      never_written g.D.OverlayEdgeData.writes c.args.self.now.store,
    )

pub add_edge-requires : goal.add_edge-requires
add_edge-requires g c =
    let steps = g.P.Iterator.next_gives in
    let edge = c.in-Some.edge in
    let given = c.loop-edge.yielded in
    let same : c.into_iter-edge-iterator.result ≡ c.args.iter = search rules in
    let more = Yields-more steps c.into_iter-edge-iterator.result given c.loop-edge.edge-iterator edge c.next.new.self
    c.loop-edge.yielded_by c.in-Some.ensures.steps in
    (All-pop (IsEdgeInRange g.I.IntNumber.whole g.I.IntNumber.limit) (given ++ edge ∷ []) given (Some edge) refl
    (c.requires.in_range (given ++ edge ∷ []) c.next.new.self
    (subst (λ s. Yields steps s (given ++ edge ∷ []) c.next.new.self) same more))).1

pub loop-edge-preserved : goal.loop-edge-preserved
loop-edge-preserved g c =
    let writes = g.D.OverlayEdgeData.writes in
    let at = plain_point g.I.IntNumber.whole in
    let e = c.in_ok-add_edge.ensures in (
      search rules,
      search rules,
      one_more_added g.I.IntNumber.whole c.args.shape_type g.D.OverlayEdgeData.reverses c.loop-edge.yielded
          c.in-Some.edge c.args.self.now c.loop-edge.self c.loop-edge.invariant.2 c.add_edge.new.self e.added.ok
          e.added.light e.kept,
      reached_on writes _ _ _ c.loop-edge.invariant.3
          (reached_unless writes (is_le (point_cmp (at c.in-Some.edge.a) (at c.in-Some.edge.b))) _ _ e.store),
    )

pub returns-in_err-add_edge-clause-err : goal.returns-in_err-add_edge-clause-err
returns-in_err-add_edge-clause-err g c =
    let whole = g.I.IntNumber.whole in
    let reverses = g.D.OverlayEdgeData.reverses in
    let steps = g.P.Iterator.next_gives in
    let e = c.in_err-add_edge.ensures in
    let same : c.into_iter-edge-iterator.result ≡ c.args.iter = search rules in
    let p = err_from_is_err_and c.from_residual-in_err-add_edge.result c.from_residual-in_err-add_edge.ensures.1 in
    let error = c.in_err-add_edge.field-0.0 in
    let stops = stops_here whole c.args.shape_type reverses c.loop-edge.yielded c.in-Some.edge c.args.self.now
    c.loop-edge.self c.loop-edge.invariant.2 steps c.into_iter-edge-iterator.result c.next.new.self
    (c.loop-edge.edge-iterator, c.loop-edge.yielded_by, c.in-Some.ensures.steps) error
    (λ is. e.added.failed.0 (ap Err is)) (λ is. e.added.too_many (ap Err is)) (λ is. e.added.no_query (ap Err is)) in
    rw (p.1, p.2) (inr (subst (λ es. StopsAtEdge whole c.args.shape_type reverses steps c.args.iter
    c.args.self.now.edges es error) (ap (λ b. b.edges) (sym e.err))
    (subst (λ s. StopsAtEdge whole c.args.shape_type reverses steps s c.args.self.now.edges c.loop-edge.self.edges
    error) same stops)))

pub returns-in_err-add_edge-clause-store : goal.returns-in_err-add_edge-clause-store
returns-in_err-add_edge-clause-store g c =
    subst (λ b. IsStoreReached g.D.OverlayEdgeData.writes c.args.self.now.store b.store)
    (sym c.in_err-add_edge.ensures.err) c.loop-edge.invariant.3

pub returns-in_err-check_usable-clause-store : goal.returns-in_err-check_usable-clause-store
returns-in_err-check_usable-clause-store g c = never_written g.D.OverlayEdgeData.writes c.args.self.now.store
