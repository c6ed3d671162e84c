-- Entries of a list, no two of which pass a symmetric test: no two pass it in any order of the list.
use Rattle.std.proofs.Common.{◌≡◌, ⊎_elim, Bool, true, false, List, [], ◌∷◌, Contains, AllPairs, sym, subst}
use Rattle.std.specs.List.{AllByRecursion, IsDistinct}
use Rattle.std.specs.List.Sorted.{IsPermutation}
use Rattle.std.proofs.lemmas.Map.Keys.{IsDistinct-IsPermutation}
use Rattle.overlay_geom.specs.Plane.{Step, edge_eq, step_eq, edge_of}
use Rattle.overlay_geom.proofs.Orders.{edge_eq-exchanged}
use Rattle.overlay_plane.specs.Anchors.{HasEachEdgeOnce}
use Rattle.overlay_plane.specs.BesideOrbits.{HasEachOnce}
use Rattle.overlay_plane.proofs.AtNodes.{equal_steps, same_steps}
use Rattle.overlay_plane.proofs.LaterEntries.{Contains-cases, Each, Each-from_all_pairs, AllPairs-from_each}
use Rattle.overlay_plane.proofs.Tests.{same_tests}
use Rattle.overlay_plane.proofs.Totals.{Contains-head, Contains-later}

-- a fact of each entry, by recursion and by entries
by_recursion : {X : Type 0} (P : X → Type 0) (xs : List X) → ((x : X) → Contains xs x → P x) → AllByRecursion P xs
by_recursion P [] h = tt
by_recursion P (x ∷ xs) h = (h x (Contains-head x xs), by_recursion P xs (λ y c. h y (Contains-later x xs y c)))

by_entries : {X : Type 0} (P : X → Type 0) (xs : List X) → AllByRecursion P xs → (x : X) → Contains xs x → P x
by_entries P [] h x c = elim c.1 [ ]
by_entries P (y ∷ ys) h x c = ⊎_elim (λ is. subst P is h.0) (λ later. by_entries P ys h.1 x later)
    (Contains-cases y ys x c)

module _ {X : Type 0} (test : X → X → Bool) where
  -- no two pass
  abbrev Apart : X → X → Type 0
  Apart x y = test x y ≡ false

  distinct_from_each : (xs : List X) → Each Apart xs → IsDistinct test xs
  unfolding IsDistinct
  distinct_from_each [] h = tt
  distinct_from_each (x ∷ xs) h = (by_recursion (Apart x) xs h.0, distinct_from_each xs h.1)

  each_from_distinct : (xs : List X) → IsDistinct test xs → Each Apart xs
  unfolding IsDistinct
  each_from_distinct [] h = tt
  each_from_distinct (x ∷ xs) h = (by_entries (Apart x) xs h.0, each_from_distinct xs h.1)

  -- no two of them pass in another order
  pub pairs_shuffled : ((x y : X) → test x y ≡ true → test y x ≡ true) → (xs ys : List X) → IsPermutation xs ys →
      AllPairs Apart xs → AllPairs Apart ys
  pairs_shuffled flips xs ys moved apart =
      AllPairs-from_each Apart ys (each_from_distinct ys
      (IsDistinct-IsPermutation test (λ x y. same_tests (test x y) (test y x) (flips x y) (flips y x)) xs ys moved
      (distinct_from_each xs (Each-from_all_pairs Apart xs apart))))

-- no step stands twice in another order
pub once_shuffled : (xs ys : List Step) → IsPermutation xs ys → HasEachOnce xs → HasEachOnce ys
once_shuffled xs ys moved once = pairs_shuffled step_eq (λ s t same. equal_steps t s (sym (same_steps s t same))) xs
    ys moved once

-- and no edge
pub edges_once_shuffled : (xs ys : List Step) → IsPermutation xs ys → HasEachEdgeOnce xs → HasEachEdgeOnce ys
edges_once_shuffled xs ys moved once =
    pairs_shuffled (λ s t. edge_eq (edge_of s) (edge_of t)) (λ s t same. edge_eq-exchanged (edge_of s) (edge_of t) same)
    xs ys moved once
