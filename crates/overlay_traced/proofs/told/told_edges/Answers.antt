-- One more edge is told.
use Rattle.std.proofs.Common.{◌≡◌, ◌+◌, ◌∷◌, ◌++◌, [], sym, ap, ◌∙◌, subst, take}
use Rattle.std.proofs.lemmas.List.{map-append, take_more}
use Rattle.overlay_traced.specs.Told.{AreTold, traced_arrays}
use Rattle.overlay_vector.specs.DataVectors.{plain_data_vector, plain_data_vectors}
use Rattle.overlay_traced.proofs.told.told_edges.Goals as goal

pub loop-edge-preserved : goal.loop-edge-preserved
loop-edge-preserved g c =
    let whole = g.I.IntNumber.whole in
    let edges = c.args.edges.now in
    let i = c.loop-edge.edge-index in
    let e = c.edge-item.result in
    let told = c.push_told.new.told in
    let next : take (i + 1) edges ≡ take i edges ++ e ∷ [] =
    take_more edges i e c.loop-edge-test.true ∙ ap (λ x. take i edges ++ x ∷ []) (sym c.edge-item.is) in
    subst (λ vs. AreTold whole vs (traced_arrays told.coordinates.items told.fills.items told.source_ends.items
    told.sources.items))
    (sym (ap (plain_data_vectors whole) next ∙ map-append (plain_data_vector whole) (take i edges) (e ∷ [])))
    (c.in_ok-push_told.ensures (plain_data_vectors whole (take i edges)) c.loop-edge.invariant)
