-- Lists in which each entry is in relation to each later entry: by places, and for filtered, mapped and longer lists.
use Rattle.std.proofs.Common.{◌≡◌, ◌⊎◌, inl, inr, ⊎_elim, zero, suc, Bool, true, false, cond}
use Rattle.std.proofs.Common.{List, [], ◌∷◌, ◌++◌, map, get_or, Contains, AllPairs, filter, sym, ◌∙◌, subst, arith}
use Rattle.std.specs.Bool.{⊤}
use Rattle.std.proofs.lemmas.List.Elements.{Contains-get_or, Contains-push_cases}
pub use Rattle.overlay_geom.proofs.Entries.{Contains-cases}
use Rattle.overlay_geom.proofs.Entries.{Contains-head, Contains-later}
use Rattle.overlay_plane.proofs.Entries.{Contains-from_filter, Contains-from_map}

-- each entry is in relation to each later one
abbrev pub Each : {X : Type 0} → (X → X → Type 0) → List X → Type 0
Each R [] = ⊤
Each {X} R (x ∷ xs) = ((z : X) → Contains xs z → R x z) × Each R xs

module _ {X : Type 0} (R : X → X → Type 0) where
  -- this relation by places
  pub Each-from_all_pairs : (xs : List X) → AllPairs R xs → Each R xs
  Each-from_all_pairs [] h = tt
  Each-from_all_pairs (x ∷ xs) h = (
    λ z c. subst (λ y. R x y) c.2 (h 0 (suc c.0) z (omega arith) (let l = c.1 in omega arith)),
    Each-from_all_pairs xs (λ i j d p q. h (suc i) (suc j) d (omega arith) (omega arith)),
  )

  -- the converse
  pub AllPairs-from_each : (xs : List X) → Each R xs → AllPairs R xs
  AllPairs-from_each [] h i j d before inside = elim inside [ ]
  AllPairs-from_each (x ∷ xs) h zero zero d before inside = absurd (omega arith)
  AllPairs-from_each (x ∷ xs) h zero (suc j) d before inside = h.0 (get_or xs j d)
      (Contains-get_or xs j d (omega arith))
  AllPairs-from_each (x ∷ xs) h (suc i) zero d before inside = absurd (omega arith)
  AllPairs-from_each (x ∷ xs) h (suc i) (suc j) d before inside = AllPairs-from_each xs h.1 i j d (omega arith)
      (omega arith)

  -- of two different entries one is in relation to the other
  pub either_way : (xs : List X) → Each R xs → (x y : X) → Contains xs x → Contains xs y → ¬ (x ≡ y) → R x y ⊎ R y x
  either_way [] h x y c d apart = absurd (elim c.1 [ ])
  either_way (z ∷ zs) h x y c d apart = ⊎_elim
      (λ is_x. ⊎_elim (λ is_y. absurd (apart (sym is_x ∙ is_y))) (λ later. inl (subst (λ u. R u y) is_x (h.0 y later)))
      (Contains-cases z zs y d))
      (λ later_x. ⊎_elim (λ is_y. inr (subst (λ u. R u x) is_y (h.0 x later_x)))
      (λ later. either_way zs h.1 x y later_x later apart)
      (Contains-cases z zs y d))
      (Contains-cases z zs x c)

-- entries that pass a test are in relation too
pub Each-filter : {X : Type 0} (R : X → X → Type 0) (p : X → Bool) (xs : List X) → Each R xs → Each R (filter p xs)
Each-filter R p [] h = tt
Each-filter {X} R p (x ∷ xs) h = by (p x) (Each-filter R p xs h.1)
  where
    by : (t : Bool) → Each R (filter p xs) → Each R (cond t (x ∷ filter p xs) (filter p xs))
    by true rest = ((λ z c. h.0 z (Contains-from_filter p xs z c).0), rest)
    by false rest = rest

-- in relation to each later one, and so in a relation that follows from it
pub Each-weaker : {X : Type 0} (R S : X → X → Type 0) (xs : List X) →
    ((x y : X) → Contains xs x → Contains xs y → R x y → S x y) → Each R xs →
    Each S xs
Each-weaker R S [] w h = tt
Each-weaker R S (x ∷ xs) w h = (
  (λ z c. w x z (Contains-head x xs) (Contains-later x xs z c) (h.0 z c)),
  Each-weaker R S xs (λ y z cy cz r. w y z (Contains-later x xs y cy) (Contains-later x xs z cz) r) h.1,
)

-- mapped entries are in relation
pub Each-map : {X Y : Type 0} (R : X → X → Type 0) (S : Y → Y → Type 0) (f : X → Y) (xs : List X) →
    ((x y : X) → Contains xs x → Contains xs y → R x y → S (f x) (f y)) → Each R xs → Each S (map f xs)
Each-map R S f [] become h = tt
Each-map {X} {Y} R S f (x ∷ xs) become h =
    (first, Each-map R S f xs (λ y z cy cz r. become y z (Contains-later x xs y cy) (Contains-later x xs z cz) r) h.1)
  where
    first : (z : Y) → Contains (map f xs) z → S (f x) z
    first z c =
        let found = Contains-from_map f xs z c in
        subst (S (f x)) found.2 (become x found.0 (Contains-head x xs) (Contains-later x xs found.0 found.1)
        (h.0 found.0 found.1))

-- one more entry at the end, to which all the others are in relation
pub Each-push : {X : Type 0} (R : X → X → Type 0) (xs : List X) (b : X) → Each R xs →
    ((x : X) → Contains xs x → R x b) → Each R (xs ++ b ∷ [])
Each-push R [] b h to = ((λ z c. elim c.1 [ ]), tt)
Each-push {X} R (x ∷ xs) b h to = (first, Each-push R xs b h.1 (λ z c. to z (Contains-later x xs z c)))
  where
    first : (z : X) → Contains (xs ++ b ∷ []) z → R x z
    first z c =
        elim (Contains-push_cases xs b z c) [
          | inl before ↦ h.0 z before
          | inr is ↦ subst (R x) is (to x (Contains-head x xs))
        ]

-- and between two ends to which they are
pub Each-between_ends : {X : Type 0} (R : X → X → Type 0) (a b : X) (xs : List X) → R a b →
    ((x : X) → Contains xs x → R a x × R x b) → Each R xs →
    Each R (a ∷ xs ++ b ∷ [])
Each-between_ends {X} R a b xs ends within h = (first, Each-push R xs b h (λ x c. (within x c).1))
  where
    first : (z : X) → Contains (xs ++ b ∷ []) z → R a z
    first z c =
        elim (Contains-push_cases xs b z c) [
          | inl inner ↦ (within z inner).0
          | inr is ↦ subst (R a) is ends
        ]
