-- The edges along the walk are kept, or joined.
use Rattle.std.proofs.Common.{All, refl, sym, subst}
use Rattle.std.proofs.lemmas.Result.{IfOk-weaker}
use Rattle.overlay_walk.specs.Steps.{plain_steps}
use Rattle.overlay_vector.specs.DataVectors.{plain_data_vectors}
use Rattle.overlay_vector.specs.Joining.{IsJoined, IsInRange, IsKeptOrJoined}
use Rattle.overlay_vector.specs.VectorShapes.{IsVectorContour}
use Rattle.overlay_vector.proofs.vector_contours.contour.Goals as goal

pub joined-requires : goal.joined-requires
joined-requires g c = subst (λ vs. All (IsInRange g.I.IntNumber.limit) (plain_data_vectors g.I.IntNumber.whole vs))
    (sym c.deref.ensures.value) c.in_ok-vectors.ensures.in_range

pub returns-then-keeps_edges-clause-ok : goal.returns-then-keeps_edges-clause-ok
returns-then-keeps_edges-clause-ok g c =
    let vs = plain_data_vectors g.I.IntNumber.whole c.in_ok-vectors.vectors.items in
    record {
      vectors = vs;
      along = c.in_ok-vectors.ensures.along;
      shown = subst (λ k. IsKeptOrJoined g.D.PartialEq.eq k vs vs) (sym c.if-keeps_edges.true) refl;
    }

pub returns-clause-ok : goal.returns-clause-ok
returns-clause-ok g c =
    let whole = g.I.IntNumber.whole in
    let eq = g.D.PartialEq.eq in
    let vs = c.in_ok-vectors.vectors.items in
    IfOk-weaker c.joined.result
    (λ v. IsJoined eq (plain_data_vectors whole c.deref.result.now) (plain_data_vectors whole v.items))
    (λ v. IsVectorContour g.D.OverlayEdgeData.reverses eq c.args.graph.now.fill_rule c.args.keeps_edges
    c.args.graph.now.edges (plain_steps whole c.args.walk.now) (plain_data_vectors whole v.items))
    (λ v are. record {
      vectors = plain_data_vectors whole vs;
      along = c.in_ok-vectors.ensures.along;
      shown = subst (λ k. IsKeptOrJoined eq k (plain_data_vectors whole vs) (plain_data_vectors whole v.items))
          (sym c.if-keeps_edges.false)
          (subst (λ us. IsJoined eq (plain_data_vectors whole us) (plain_data_vectors whole v.items))
          c.deref.ensures.value are);
    })
    c.joined.ensures.joined
