-- The edges of an arrangement, sorted by their starts, may be swept over. Their windings and fill bits do not depend on
-- the order.
use Rattle.std.proofs.Common.{◌≡◌, ℕ, ◌^◌, ◌<◌, true, false, cond, ℤ, pos, ◌+ℤ◌, ◌-ℤ◌, ◌*ℤ◌, List, map, Contains, sym}
use Rattle.std.proofs.Common.{ap₂, ◌∙◌, subst}
use Rattle.std.specs.List.{AllPairs}
use Rattle.std.specs.List.Sorted.{IsPermutation}
use Rattle.std.proofs.lemmas.List.Elements.{All-contains}
use Rattle.std.proofs.lemmas.List.Sorted.{All-permutation, Contains-permutation, IsPermutation-map, IsPermutation-sym}
use Rattle.overlay_geom.specs.Plane.{midpoint, point_lt, edge_eq, is_strictly_below}
use Rattle.overlay_geom.specs.Edges.{CountedEdge, ends_of, subj_of, clip_of, winding_below}
use Rattle.overlay_geom.specs.Numbered.{Numbered, numbered}
use Rattle.overlay_geom.specs.Settled.{IsSettled}
use Rattle.overlay_geom.specs.Rules.{bits_of, is_filled, fill_bits}
use Rattle.overlay_geom.specs.declared.fill_rule.FillRule.{FillRule}
use Rattle.overlay_geom.proofs.Mapped.{AllPairs-map}
use Rattle.overlay_geom.proofs.Numbered.{items_numbered}
use Rattle.overlay_geom.proofs.Orders.{edge_eq-exchanged}
use Rattle.overlay_geom.proofs.Shuffled.{weight_shuffled}
use Rattle.overlay_geom.proofs.Totals.{total-IsPermutation}
use Rattle.overlay_plane.specs.Anchors.{is_anchored_before}
use Rattle.overlay_plane.specs.Balance.{HasBalancedCounts}
use Rattle.overlay_plane.specs.EdgeLists.{IsBalanced}
use Rattle.overlay_plane.specs.Nodes.{IsBalancedArrangement}
use Rattle.overlay_plane.proofs.EdgeOrder.{distinct_from_ascending}
use Rattle.overlay_plane.proofs.Entries.{all_of_entries}
use Rattle.overlay_plane.proofs.ShuffledPairs.{pairs_shuffled}
use Rattle.overlay_order.specs.Content.{IsHeld, IsContent, IsAscending}
use Rattle.overlay_graph.specs.Starts.{AreByStart, IsSweepable}

-- by their starts, edges without their places are the edges in another order
pub starts_permuted : (es : List CountedEdge) (ns : List (Numbered CountedEdge)) → AreByStart es ns →
    IsPermutation es (map (λ n. n.item) ns)
starts_permuted es ns by = subst (λ xs. IsPermutation xs (map (λ (n : Numbered CountedEdge). n.item) ns))
    (items_numbered 0 es)
    (IsPermutation-map (λ (n : Numbered CountedEdge). n.item) (numbered 0 es) ns by.permutation)

module _ (es fs : List CountedEdge) (moved : IsPermutation es fs) where
  -- the windings below an edge do not ask for the order
  winding_shuffled : (count : CountedEdge → ℤ) (e : CountedEdge) → winding_below count fs e ≡ winding_below count es e
  winding_shuffled count e = total-IsPermutation (λ f. cond (is_strictly_below (ends_of f) (midpoint (ends_of e)))
      (count f) (pos 0)) es fs moved

  -- nor do the fill bits
  pub bits_shuffled : (rule : FillRule) (e : CountedEdge) → fill_bits rule fs e ≡ fill_bits rule es e
  bits_shuffled rule e = by (winding_shuffled subj_of e) (winding_shuffled clip_of e)
    where
      bits : ℤ → ℤ → ℕ
      bits s c = bits_of (record {
        subj_above = is_filled rule (s +ℤ e.counts.subj);
        subj_below = is_filled rule s;
        clip_above = is_filled rule (c +ℤ e.counts.clip);
        clip_below = is_filled rule c;
      })

      by : {s t c d : ℤ} → s ≡ t → c ≡ d → bits s c ≡ bits t d
      by same_s same_c = ap₂ bits same_s same_c

  module _ (limit : ℕ) (content : IsContent limit es) (ascending : IsAscending es) (settled : IsSettled es) where
    balanced_arrangement : (count : CountedEdge → ℤ) → IsBalanced ends_of count es → IsBalancedArrangement count fs
    balanced_arrangement count balanced = record {
      planar = record {
        forward = all_of_entries (λ e. point_lt e.a e.b ≡ true) fs
            (λ e c. (All-contains (IsHeld limit) es e content.held (before e c)).forward);
        settled = λ e f c d. settled e f (before e c) (before f d);
        distinct = pairs_shuffled (λ e f. edge_eq (ends_of e) (ends_of f))
            (λ e f. edge_eq-exchanged (ends_of e) (ends_of f)) es fs moved (distinct_from_ascending es ascending);
      };
      balanced = λ g. total-IsPermutation (λ e. count e *ℤ (g e.b -ℤ g e.a)) es fs moved ∙ balanced g;
    }
      where
        before : (e : CountedEdge) → Contains fs e → Contains es e
        before e c = Contains-permutation fs es e (IsPermutation-sym es fs moved) c

    pub sweepable : HasBalancedCounts es → AllPairs (λ e f. is_anchored_before (ends_of f) (ends_of e) ≡ false) fs →
        IsSweepable limit fs
    sweepable balanced order = record {
      content = record {
        held = All-permutation (IsHeld limit) es fs moved content.held;
        light = subst (λ w. w < 2 ^ 31) (sym (weight_shuffled es fs moved)) content.light;
      };
      subj = balanced_arrangement subj_of balanced.subj;
      clip = balanced_arrangement clip_of balanced.clip;
      order = order;
    }

-- the edges by their starts, without their places
pub by_start_sweepable : (limit : ℕ) (es : List CountedEdge) → IsContent limit es → IsAscending es → IsSettled es →
    HasBalancedCounts es →
    (ns : List (Numbered CountedEdge)) → AreByStart es ns → (fs : List CountedEdge) → map (λ n. n.item) ns ≡ fs →
    IsSweepable limit fs
by_start_sweepable limit es content ascending settled balanced ns by fs items =
    sweepable es fs (subst (IsPermutation es) items (starts_permuted es ns by)) limit content ascending settled balanced
    (subst (AllPairs (λ (e f : CountedEdge). is_anchored_before (ends_of f) (ends_of e) ≡ false)) items
    (AllPairs-map (λ (e f : CountedEdge). is_anchored_before (ends_of f) (ends_of e) ≡ false)
    (λ (n : Numbered CountedEdge). n.item) ns by.order))
