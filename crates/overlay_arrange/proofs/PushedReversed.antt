-- An edge is added to a content, as it is or reversed: its weight does not change when its counts are reversed.
use Rattle.std.proofs.Common.{◌≡◌, ℕ, ◌+◌, ◌<◌, ◌^◌, ℤ, pos, List, [], ◌∷◌, ◌++◌, sym, ap, ◌∙◌, subst, arith}
use Rattle.std.specs.List.{All}
use Rattle.std.proofs.lemmas.List.{map_push}
use Rattle.std.proofs.lemmas.List.Elements.{All-push}
use Rattle.std.proofs.lemmas.List.Sums.{sum_by-append}
use Rattle.overlay_geom.specs.Counts.{Counts, reversed_counts, weight_of_counts}
use Rattle.overlay_geom.specs.Edges.{CountedEdge, weight}
use Rattle.overlay_geom.specs.Plane.{Point}
use Rattle.overlay_geom.proofs.Weights.{edge_weight, weight-cons}
use Rattle.overlay_plane.proofs.PieceCounts.{edge_weight-piece}
use Rattle.overlay_order.specs.Content.{edge_with, plain_edge, plain_edges, IsHeld, IsWeighed}
use Rattle.overlay_order.specs.declared.edge.CountedEdge.{CountedEdge as HeldEdge}

-- reversed counts have the weight of the counts
weight_reversed : (c : Counts) → weight_of_counts (reversed_counts c) ≡ weight_of_counts c
weight_reversed c =
    let p : Point = record { x = pos 0; y = pos 0 } in
    let q : Point = record { x = pos 1; y = pos 0 } in
    edge_weight-piece (edge_with p q c) (record { from = q; to = p })

module _ {I C : Type 0} (limit : ℕ) (whole : I → ℤ) (counts : C → Counts) where
  -- held edges and one more, with other counts of the same weight, are a content of their weights' sum
  pub pushed : (old new : List (HeldEdge I C)) (e : HeldEdge I C) (t : C) (n added : ℕ) →
      IsWeighed limit (plain_edges whole counts old) n → IsHeld limit (plain_edge whole counts e) →
      weight_of_counts (counts t) ≡ weight_of_counts (counts e.count) → added ≡ weight_of_counts (counts e.count) →
      n + added < 2 ^ 31 → new ≡ old ++ record { a = e.a; b = e.b; count = t } ∷ [] →
      IsWeighed limit (plain_edges whole counts new) (n + added)
  pushed old new e t n added before held same weighs light is =
      let x : CountedEdge = plain_edge whole counts (record { a = e.a; b = e.b; count = t }) in
      let seen : plain_edges whole counts new ≡ plain_edges whole counts old ++ x ∷ [] =
      ap (plain_edges whole counts) is
      ∙ map_push (plain_edge whole counts) old (record { a = e.a; b = e.b; count = t }) in
      let sum : weight (plain_edges whole counts old ++ x ∷ [])
      ≡ weight (plain_edges whole counts old) + weight (x ∷ []) =
      sum_by-append edge_weight (plain_edges whole counts old) (x ∷ []) in
      let one : weight (x ∷ []) ≡ edge_weight x + 0 = weight-cons x [] in
      let number = before.weighed in
      let total : n + added ≡ weight (plain_edges whole counts old ++ x ∷ []) = omega arith in
      let below : weight (plain_edges whole counts old ++ x ∷ []) < 2 ^ 31 = omega arith in
      record {
        content = record {
          held = subst (All (IsHeld limit)) (sym seen)
              (All-push (IsHeld limit) (plain_edges whole counts old) x before.content.held
              (record { forward = held.forward; a_in_range = held.a_in_range; b_in_range = held.b_in_range }));
          light = subst (λ es. weight es < 2 ^ 31) (sym seen) below;
        };
        weighed = total ∙ ap weight (sym seen);
      }

  -- so are held edges and a reversed one more
  pub pushed_reversed : (old new : List (HeldEdge I C)) (e : HeldEdge I C) (t : C) (n added : ℕ) →
      IsWeighed limit (plain_edges whole counts old) n → IsHeld limit (plain_edge whole counts e) →
      counts t ≡ reversed_counts (counts e.count) → added ≡ weight_of_counts (counts e.count) → n + added < 2 ^ 31 →
      new ≡ old ++ record { a = e.a; b = e.b; count = t } ∷ [] →
      IsWeighed limit (plain_edges whole counts new) (n + added)
  pushed_reversed old new e t n added before held turned weighs light is =
      pushed old new e t n added before held (ap weight_of_counts turned ∙ weight_reversed (counts e.count)) weighs
      light is
