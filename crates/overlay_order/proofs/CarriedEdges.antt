-- Held edges with their values, and their counted edges alone.
use Rattle.std.proofs.Common.{◌≡◌, ℤ, List, sym, ap, ◌∙◌}
use Rattle.std.proofs.lemmas.Simd.{map-map}
use Rattle.overlay_geom.specs.Counts.{Counts}
use Rattle.overlay_plane.specs.Carried.{Carried, edges_in}
use Rattle.overlay_order.specs.Content.{carried_edges, plain_edges}
use Rattle.overlay_order.specs.declared.edge.CountedEdge.{CountedEdge as HeldEdge}

-- the counted edges of held ones are their plain edges
pub edges_in-carried : {I C : Type 0} (whole : I → ℤ) (counts : C → Counts) (es : List (HeldEdge I C)) →
    edges_in (carried_edges whole counts es) ≡ plain_edges whole counts es
edges_in-carried whole counts es = map-map (λ x. x.edge) _ es

-- the plain edges, if contracts see the held edges as another list
pub plain_edges-seen : {I C : Type 0} (whole : I → ℤ) (counts : C → Counts) (es : List (HeldEdge I C))
    (xs : List (Carried C)) →
    carried_edges whole counts es ≡ xs → plain_edges whole counts es ≡ edges_in xs
plain_edges-seen whole counts es xs seen = sym (edges_in-carried whole counts es) ∙ ap edges_in seen
