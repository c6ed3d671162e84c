-- One edge more along one step more.
use Rattle.std.proofs.Common.{◌∷◌, ◌++◌, [], ◌+◌, take, All, sym, ap, ◌∙◌, subst, rules}
use Rattle.std.specs.List.{AllZip}
use Rattle.std.proofs.lemmas.List.{map-append, take_all}
use Rattle.std.proofs.lemmas.List.Elements.{All-push}
use Rattle.overlay_geom.specs.Edges.{all_ends}
use Rattle.overlay_geom.proofs.Mapped.{AllZip-more, mapped_more}
use Rattle.overlay_graph.specs.Graphs.{graph_edges}
use Rattle.overlay_parts.proofs.ReachedStores.{never_written, reached_on}
use Rattle.overlay_walk.specs.Steps.{plain_step, plain_steps, RunsAlong}
use Rattle.overlay_vector.specs.DataVectors.{plain_data_vector, plain_data_vectors}
use Rattle.overlay_vector.specs.Joining.{IsInRange}
use Rattle.overlay_vector.specs.VectorShapes.{IsVectorAlong}
use Rattle.overlay_vector.proofs.vector_contours.vectors_along.Goals as goal

pub vector_along-requires : goal.vector_along-requires
vector_along-requires g c =
    let along = RunsAlong g.I.IntNumber.whole (all_ends (graph_edges c.args.graph.now)) in
    subst along (sym c.index-walk-i.is) (c.requires c.loop-i.i c.index-walk-i.result c.loop-i-test.true)

pub loop-i-preserved : goal.loop-i-preserved
loop-i-preserved g c =
    let whole = g.I.IntNumber.whole in
    let is = IsVectorAlong g.D.OverlayEdgeData.reverses c.args.graph.now.fill_rule c.args.graph.now.edges in
    let i = c.loop-i.i in
    let vs = plain_data_vectors whole c.loop-i.vectors.items in
    let v = plain_data_vector whole c.vector_along.result in
    let pushed = ap (plain_data_vectors whole) c.in_ok-push.ensures.items
    ∙ map-append (plain_data_vector whole) c.loop-i.vectors.items (c.vector_along.result ∷ []) in
    record {
      along = subst (AllZip is (plain_steps whole (take (i + 1) c.args.walk.now))) (sym pushed)
          (subst (λ ss. AllZip is ss (vs ++ v ∷ []))
          (sym (mapped_more (plain_step whole) c.args.walk.now i c.index-walk-i.result c.loop-i-test.true
          c.index-walk-i.is))
          (AllZip-more is (plain_steps whole (take i c.args.walk.now)) vs (plain_step whole c.index-walk-i.result) v
          c.loop-i.invariant.along c.vector_along.ensures.along));
      in_range = subst (All (IsInRange g.I.IntNumber.limit)) (sym pushed)
          (All-push (IsInRange g.I.IntNumber.limit) vs v c.loop-i.invariant.in_range c.vector_along.ensures.in_range);
      reached = reached_on g.D.OverlayEdgeData.writes _ _ _ c.loop-i.invariant.reached c.vector_along.ensures.store;
    }

pub returns-clause-along : goal.returns-clause-along
returns-clause-along g c =
    let whole = g.I.IntNumber.whole in
    subst (λ ss. AllZip (IsVectorAlong g.D.OverlayEdgeData.reverses c.args.graph.now.fill_rule c.args.graph.now.edges)
    (plain_steps whole ss) (plain_data_vectors whole c.loop-i.vectors.items))
    (take_all c.loop-i.i c.args.walk.now c.loop-i-test.false) c.loop-i.invariant.along

pub loop-i-init : goal.loop-i-init
loop-i-init g c = record {
  along = search rules;
  in_range = search rules;
  reached = never_written g.D.OverlayEdgeData.writes c.args.store.now;
}

pub returns-in_err-push-clause-store : goal.returns-in_err-push-clause-store
returns-in_err-push-clause-store g c =
    reached_on g.D.OverlayEdgeData.writes _ _ _ c.loop-i.invariant.reached c.vector_along.ensures.store
