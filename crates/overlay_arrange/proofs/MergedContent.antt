-- Merging keeps a builder's content within its bounds.
use Rattle.std.proofs.Common.{◌≡◌, ℕ, true, false, List, get_or, ap, subst, ◌∙◌, arith, inl, inr}
use Rattle.std.specs.List.{All}
use Rattle.std.specs.List.Sorted.{IsPermutation}
use Rattle.std.proofs.lemmas.Bool.{both_ways}
use Rattle.std.proofs.lemmas.List.Elements.{All-contains}
use Rattle.std.proofs.lemmas.List.Sorted.{All-permutation}
use Rattle.overlay_geom.specs.Plane.{Edge, point_lt}
use Rattle.overlay_geom.specs.Points.{InRange}
use Rattle.overlay_geom.specs.Edges.{CountedEdge, ends_of, counts_nothing}
use Rattle.overlay_geom.specs.Merged.{joined_edge, IsMerged}
use Rattle.overlay_geom.proofs.Between.{find_between}
use Rattle.overlay_geom.proofs.Merging.{joined_none}
use Rattle.overlay_geom.proofs.Shuffled.{weight_shuffled}
use Rattle.overlay_geom.proofs.Weights.{weight_of_merged}
use Rattle.overlay_order.specs.Content.{IsHeld, IsContent}

-- an edge is held or not by its ends
pub IsHeld-same_ends : (limit : ℕ) (e f : CountedEdge) → ends_of e ≡ ends_of f → IsHeld limit e → IsHeld limit f
IsHeld-same_ends limit e f ends held = record {
  forward = subst (λ (g : Edge). point_lt g.a g.b ≡ true) ends held.forward;
  a_in_range = subst (λ (g : Edge). InRange limit g.a) ends held.a_in_range;
  b_in_range = subst (λ (g : Edge). InRange limit g.b) ends held.b_in_range;
}

-- a joined edge with counts has the ends of an edge of the list
pub IsHeld-joined : (limit : ℕ) (old : List CountedEdge) → All (IsHeld limit) old →
    (e : CountedEdge) → e ≡ joined_edge old (ends_of e) → counts_nothing e ≡ false → IsHeld limit e
IsHeld-joined limit old held e joined full =
    elim (find_between old (ends_of e)) [
      | inl none ↦ absurd (both_ways (counts_nothing e) full (ap counts_nothing joined
          ∙ joined_none old (ends_of e) none))
      | inr found ↦ IsHeld-same_ends limit found.0 e found.2 (All-contains (IsHeld limit) old found.0 held found.1)
    ]

-- a builder may hold a content merged
pub IsContent-merged : (limit : ℕ) (old new : List CountedEdge) → IsContent limit old → IsMerged old new →
    IsContent limit new
IsContent-merged limit old new content merged = record {
  held = λ k d l. IsHeld-joined limit old content.held (get_or new k d) (merged.joined k d l).0 (merged.joined k d l).1;
  light = omega (arith, weight_of_merged old new merged, content.light);
}

-- a builder may hold a content in another order
pub IsContent-shuffled : (limit : ℕ) (old new : List CountedEdge) → IsPermutation old new → IsContent limit old →
    IsContent limit new
IsContent-shuffled limit old new shuffled content = record {
  held = All-permutation (IsHeld limit) old new shuffled content.held;
  light = omega (arith, weight_shuffled old new shuffled, content.light);
}
