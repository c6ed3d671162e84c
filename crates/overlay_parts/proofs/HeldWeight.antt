-- The weight of held edges, edge by edge.
use Rattle.std.proofs.Common.{◌≡◌, ℕ, ◌+◌, ◌<◌, ◌≤◌, ℤ, List, length, get_or, take, ap, arith}
use Rattle.std.specs.List.{sum_by}
use Rattle.std.proofs.lemmas.List.Folds.{fold-map}
use Rattle.std.proofs.lemmas.List.Sums.{sum_by_more_le}
use Rattle.overlay_geom.specs.Edges.{weight}
use Rattle.overlay_geom.specs.Counts.{Counts, weight_of_counts}
use Rattle.overlay_geom.proofs.Weights.{edge_weight}
use Rattle.overlay_order.specs.Content.{plain_edge, plain_edges}
use Rattle.overlay_order.specs.declared.edge.CountedEdge.{CountedEdge as HeldEdge}

module _ {I C : Type 0} (whole : I → ℤ) (counts : C → Counts) where
  -- the weight of one edge
  abbrev pub held_weight : HeldEdge I C → ℕ
  held_weight e = weight_of_counts (counts e.count)

  -- the weight of held edges is the sum of their weights
  pub weight_held : (es : List (HeldEdge I C)) → weight (plain_edges whole counts es) ≡ sum_by held_weight es
  weight_held es = fold-map (λ a e. a + edge_weight e) (plain_edge whole counts) 0 es

  -- the edges so far and the next weigh no more than all
  pub weight_so_far : (es : List (HeldEdge I C)) (i : ℕ) (e : HeldEdge I C) → i < length es → e ≡ get_or es i e →
      weight (plain_edges whole counts (take i es)) + held_weight e ≤ weight (plain_edges whole counts es)
  weight_so_far es i e within at =
      let all = weight_held es in
      let front = weight_held (take i es) in
      let next : held_weight e ≡ held_weight (get_or es i e) = ap held_weight at in
      let bound = sum_by_more_le held_weight es i e within in
      omega arith
