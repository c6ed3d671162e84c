-- The store is reached by arranging the edges, and by what the shapes are made with. The shapes wind as asked of the
-- edges before, far from these.
use Rattle.std.proofs.Common.{sym, ap, ◌∙◌, subst}
use Rattle.std.proofs.lemmas.Result.{IfOk-at_ok}
use Rattle.std.specs.Prelude.{Ok}
use Rattle.overlay_plane.specs.Carried.{edges_in}
use Rattle.overlay_parts.specs.Stores.{IsStoreReached}
use Rattle.overlay_parts.proofs.ReachedStores.{reached_on}
use Rattle.overlay_builder.specs.Held.{plain_held}
use Rattle.overlay_extract.specs.Results.{asked}
use Rattle.overlay_vector.specs.VectorShapes.{plain_vector_shapes, steps_along}
use Rattle.overlay_vector.proofs.GivenEdges.{given_round}
use Rattle.overlay_vector.proofs.edge_overlay.EdgeOverlay.build_vector_shapes.Goals as goal

pub returns-clause-store : goal.returns-clause-store
returns-clause-store g c =
    let writes = g.D.OverlayEdgeData.writes in
    let arranged = c.arrange.new.store in
    reached_on writes c.args.self.now.store arranged c.self-2.inside.store
    (subst (λ b. IsStoreReached writes b.store arranged) c.self.view_is c.in_ok-arrange.ensures.store)
    (subst (λ s. IsStoreReached writes arranged s) (sym (ap (λ b. b.store) c.self-2.view_is))
    c.extract-shapes.ensures.store)

pub returns-in_err-shapes-clause-store : goal.returns-in_err-shapes-clause-store
returns-in_err-shapes-clause-store g c =
    let writes = g.D.OverlayEdgeData.writes in
    let arranged = c.arrange.new.store in
    reached_on writes c.args.self.now.store arranged c.self-2.inside.store
    (subst (λ b. IsStoreReached writes b.store arranged) c.self.view_is c.in_ok-arrange.ensures.store)
    (subst (λ s. IsStoreReached writes arranged s) (sym (ap (λ b. b.store) c.self-2.view_is))
    c.extract-shapes.ensures.store)

pub returns-clause-given : goal.returns-clause-given
returns-clause-given g c =
    let e = c.extract-shapes.ensures in
    given_round g.I.IntNumber.limit c.self.view_is (plain_held c.arrange.new.self) c.in_ok-arrange.field-0
    c.in_ok-arrange.ensures.query
    (λ b. asked g.I.Wide.WideIntNumber.width g.I.WideUInt.UIntNumber.natural c.args.fill_rule c.args.overlay_rule
    b.options)
    (λ v. steps_along (plain_vector_shapes g.I.IntNumber.whole v.items)) (edges_in c.set_failed.new.self.edges)
    (ap (λ h. edges_in h.edges) c.set_failed.ensures ∙ ap (λ b. edges_in b.edges) c.self-2.view_is
    ∙ ap (λ b. edges_in b.edges) e.kept)
    (Ok c.in_ok-shapes.field-0) (IfOk-at_ok _ c.in_ok-shapes.was e.shapes).winds
