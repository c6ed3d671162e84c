-- Edges with their fill bits, as a graph holds them, are the vectors of its edges.
use Rattle.std.proofs.Common.{◌≡◌, ℕ, ℤ, List, [], ◌∷◌, map, refl, sym, ap, ap₂, subst, ◌∙◌}
use Rattle.overlay_geom.specs.Counts.{Counts}
use Rattle.overlay_geom.specs.Points.{plain_point}
use Rattle.overlay_geom.specs.Edges.{CountedEdge}
use Rattle.overlay_geom.specs.Rules.{fill_bits}
use Rattle.overlay_geom.specs.declared.fill_rule.FillRule.{FillRule}
use Rattle.overlay_plane.specs.Carried.{edges_in}
use Rattle.overlay_order.specs.Content.{carried_edges, plain_edges}
use Rattle.overlay_order.specs.Vectors.{Vector, plain_vector, vector_of}
use Rattle.overlay_order.specs.declared.edge.CountedEdge.{CountedEdge as HeldEdge}
use Rattle.overlay_order.specs.declared.vector.DataVectorEdge.{DataVectorEdge}
use Rattle.overlay_order.proofs.CarriedEdges.{edges_in-carried}
use Rattle.overlay_graph.specs.Graphs.{carried_vectors, AreFilledBy, IsArrangement}

module _ {I C : Type 0} (whole : I → ℤ) (counts : C → Counts) where
  -- the first of the numbers, and the others
  abbrev first : List ℕ → ℕ
  first [] = 0
  first (n ∷ ns) = n

  abbrev others : List ℕ → List ℕ
  others [] = []
  others (n ∷ ns) = ns

  -- edges whose fill bits are those of a number given to each
  vectors_by : (bits : CountedEdge → ℕ) (vs : List (DataVectorEdge I C)) →
      map (λ v. v.fill) vs ≡ map bits (edges_in (carried_vectors whole counts vs)) →
      map (plain_vector whole) vs
      ≡ map (λ e. let v : Vector = record { a = e.a; b = e.b; fill = bits e } in
      v) (edges_in (carried_vectors whole counts vs))
  vectors_by bits [] filled = refl
  vectors_by bits (v ∷ vs) filled = ap₂ (λ w ws. w ∷ ws)
      (ap (λ n. let w : Vector = record { a = plain_point whole v.a; b = plain_point whole v.b; fill = n } in
      w) (ap first filled))
      (vectors_by bits vs (ap others filled))

  -- the vectors of a graph are those of its edges
  pub vectors_listed : (limit : ℕ) (rule : FillRule) (vs : List (DataVectorEdge I C)) →
      AreFilledBy limit rule (edges_in (carried_vectors whole counts vs)) (map (λ v. v.fill) vs) →
      map (plain_vector whole) vs
      ≡ map (vector_of rule (edges_in (carried_vectors whole counts vs))) (edges_in (carried_vectors whole counts vs))
  vectors_listed limit rule vs filled = vectors_by (fill_bits rule (edges_in (carried_vectors whole counts vs))) vs
      filled.filled

  -- an arrangement and its fill bits make a graph
  pub graph_made : (limit : ℕ) (rule : FillRule) (es : List (HeldEdge I C)) (vs : List (DataVectorEdge I C))
      (fills : List ℕ) →
      IsArrangement limit (plain_edges whole counts es) → fills ≡ map (fill_bits rule (plain_edges whole counts es))
      (plain_edges whole counts es) →
      carried_vectors whole counts vs ≡ carried_edges whole counts es → map (λ v. v.fill) vs ≡ fills →
      AreFilledBy limit rule (edges_in (carried_vectors whole counts vs)) (map (λ v. v.fill) vs)
  graph_made limit rule es vs fills arranged bits same filled =
      let are : edges_in (carried_vectors whole counts vs) ≡ plain_edges whole counts es =
      ap edges_in same ∙ edges_in-carried whole counts es in
      subst (λ fs. AreFilledBy limit rule fs (map (λ v. v.fill) vs)) (sym are)
      (record { arranged = arranged; filled = filled ∙ bits })
