-- Edges sorted by their smaller ends and then by their larger ones.
use Rattle.std.proofs.Common.{◌≡◌, Bool, false, ℤ, List, arith}
use Rattle.std.specs.Cmp.{IsStrictWeakOrder}
use Rattle.std.specs.List.{AllPairs}
use Rattle.std.specs.List.Sorted.{IsSortedBy}
use Rattle.std.proofs.lemmas.List.Sorted.{sorted_far}
use Rattle.overlay_geom.specs.Plane.{Edge, edge_lt}
use Rattle.overlay_geom.specs.Resolved.{plain_edge, plain_edges}
use Rattle.overlay_geom.specs.declared.edge.IntEdge.{IntEdge}
use Rattle.overlay_geom.proofs.Mapped.{AllPairs-map}
use Rattle.overlay_geom.proofs.Orders.{edge_lt-order}

module _ {I : Type 0} (whole : I → ℤ) where
  -- the first edge comes before the second
  abbrev pub held_lt : IntEdge I → IntEdge I → Bool
  held_lt e f = edge_lt (plain_edge whole e) (plain_edge whole f)

  pub held_lt-order : IsStrictWeakOrder held_lt
  held_lt-order = record {
    one_way = λ e f. edge_lt-order.one_way (plain_edge whole e) (plain_edge whole f);
    chain = λ e f h. edge_lt-order.chain (plain_edge whole e) (plain_edge whole f) (plain_edge whole h);
  }

  -- sorted edges are in order
  pub in_order-from_sorted : (es : List (IntEdge I)) → IsSortedBy held_lt es → AllPairs (λ e f. edge_lt f e ≡ false)
      (plain_edges whole es)
  in_order-from_sorted es up = AllPairs-map (λ (e f : Edge). edge_lt f e ≡ false) (plain_edge whole) es
      (λ j k d l m. sorted_far held_lt held_lt-order es up j k d (omega (arith, l)) m)
