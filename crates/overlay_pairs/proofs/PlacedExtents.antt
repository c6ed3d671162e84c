-- Boxes of the items of a list, edges or points, each at its place: with a further box, and the item of each box.
use Rattle.std.proofs.Common.{◌≡◌, ℕ, zero, suc, ◌+◌, ◌<◌, List, [], ◌∷◌, ◌++◌, Contains, length, map, get_or}
use Rattle.std.proofs.Common.{sym, ap, ap₂, ◌∙◌, subst, arith}
use Rattle.std.specs.List.Sorted.{IsPermutation}
use Rattle.std.proofs.lemmas.List.{get_or-map, length-map, map-append}
use Rattle.std.proofs.lemmas.List.Sorted.{Contains-permutation, IsPermutation-refl, IsPermutation-sym}
use Rattle.overlay_geom.specs.Numbered.{Numbered, numbered, AreNumbered}
use Rattle.overlay_geom.proofs.Entries.{some_entry}
use Rattle.overlay_geom.proofs.Numbered.{items_numbered, numbered_more, numbered_shuffled}
use Rattle.overlay_pairs.specs.Extents.{Extent, AreAtPlaces}
use Rattle.overlay_pairs.specs.Places.{IsAt}
use Rattle.overlay_pairs.proofs.Entries.{one_entry}

-- the items' places count up
place_at : {X : Type 0} (n : ℕ) (xs : List X) (k : ℕ) (d : Numbered X) → k < length (numbered n xs) →
    (get_or (numbered n xs) k d).place ≡ n + k
place_at n [] k d lt = absurd (omega (arith, lt))
place_at n (x ∷ xs) zero d lt = omega arith
place_at n (x ∷ xs) (suc k) d lt = place_at (suc n) xs k d (omega (arith, lt)) ∙ omega arith

module _ {X : Type 0} (extent : X → ℕ → Extent) where
  -- the boxes of the items, each at its place
  abbrev pub placed : List X → List Extent
  placed xs = map (λ (n : Numbered X). extent n.item n.place) (numbered 0 xs)

  -- those of one item more
  pub placed_more : (xs : List X) (x : X) → placed (xs ++ x ∷ []) ≡ placed xs ++ extent x (length xs) ∷ []
  placed_more xs x =
      ap (map (λ (n : Numbered X). extent n.item n.place)) (numbered_more 0 xs x)
      ∙ map-append (λ (n : Numbered X). extent n.item n.place) (numbered 0 xs)
      (record { item = x; place = 0 + length xs } ∷ [])
      ∙ ap (λ n. placed xs ++ extent x n ∷ []) (let same : 0 + length xs ≡ length xs = omega arith in same)

  -- there are as many as items
  pub as_many_placed : (xs : List X) → length (placed xs) ≡ length xs
  as_many_placed xs =
      length-map (numbered 0 xs) (λ (n : Numbered X). extent n.item n.place)
      ∙ sym (length-map (numbered 0 xs) (λ (n : Numbered X). n.item)) ∙ ap length (items_numbered 0 xs)

  -- where each has its item's place alone, each is at its place
  pub placed_at_places : ((x : X) (place : ℕ) → ((extent x place).first ≡ place) × ((extent x place).last ≡ place)) →
      (xs : List X) → AreAtPlaces (placed xs)
  placed_at_places own xs k s at_s =
      let inside : k < length (numbered 0 xs) = (let l = length-map (numbered 0 xs)
      (λ (n : Numbered X). extent n.item n.place) in let lt = at_s.0 in omega (arith, l, lt)) in
      let d = some_entry (numbered 0 xs) k inside in
      let n = get_or (numbered 0 xs) k d in
      let is : extent n.item n.place ≡ s =
      sym (get_or-map (λ (n : Numbered X). extent n.item n.place) (numbered 0 xs) k d s inside) ∙ at_s.1 in
      let there : n.place ≡ k = place_at 0 xs k d inside ∙ (let same : 0 + k ≡ k = omega arith in same) in
      let owns = own n.item n.place in (
        ap (λ (t : Extent). t.first) (sym is) ∙ owns.0 ∙ there,
        ap (λ (t : Extent). t.last) (sym is) ∙ owns.1 ∙ there,
      )

  module _ (xs : List X) (ss : List Extent) (moved : IsPermutation (placed xs) ss) where
    are_numbered : AreNumbered xs (numbered 0 xs)
    are_numbered = numbered_shuffled xs (numbered 0 xs) (IsPermutation-refl (numbered 0 xs))

    -- a box is that of an item
    pub item_there : (k : ℕ) (s : Extent) → IsAt ss k s → (j : ℕ) × (x : X) × IsAt xs j x × (extent x j ≡ s)
    item_there k s at_s =
        let has : Contains (placed xs) s = Contains-permutation ss (placed xs) s
        (IsPermutation-sym (placed xs) ss moved) (k, at_s.0, at_s.1) in
        let inside : has.0 < length (numbered 0 xs) = (let l = length-map (numbered 0 xs)
        (λ (n : Numbered X). extent n.item n.place) in let lt = has.1 in omega (arith, l, lt)) in
        let d = some_entry (numbered 0 xs) has.0 inside in
        let n = get_or (numbered 0 xs) has.0 d in (
          n.place,
          n.item,
          are_numbered.from has.0 d inside,
          sym (get_or-map (λ (n : Numbered X). extent n.item n.place) (numbered 0 xs) has.0 d s inside) ∙ has.2,
        )

    -- the box of each item is there
    pub extent_there : (j : ℕ) (x : X) → IsAt xs j x → Contains ss (extent x j)
    extent_there j x at_x =
        let has = are_numbered.all j at_x.0 in
        let inside : has.0 < length (numbered 0 xs) = (let l = length-map (numbered 0 xs)
        (λ (n : Numbered X). n.place) in let lt = has.1 in omega (arith, l, lt)) in
        let d = some_entry (numbered 0 xs) has.0 inside in
        let n = get_or (numbered 0 xs) has.0 d in
        let place_is : n.place ≡ j =
        sym (get_or-map (λ (m : Numbered X). m.place) (numbered 0 xs) has.0 d j inside) ∙ has.2 in
        let item_is : n.item ≡ x = one_entry xs j n.item x
        (subst (λ m. IsAt xs m n.item) place_is (are_numbered.from has.0 d inside)) at_x in
        Contains-permutation (placed xs) ss (extent x j) moved (
          has.0,
          (let l = length-map (numbered 0 xs) (λ (n : Numbered X). extent n.item n.place) in omega (arith, l, inside)),
          get_or-map (λ (n : Numbered X). extent n.item n.place) (numbered 0 xs) has.0 d (extent x j) inside
              ∙ ap₂ extent item_is place_is,
        )

    -- the place of a box is that of an item
    pub place_there : (k : ℕ) (s : Extent) → ((x : X) (place : ℕ) → (extent x place).first ≡ place) → IsAt ss k s →
        s.first < length xs
    place_there k s own at_s =
        let there = item_there k s at_s in
        let is : there.0 ≡ s.first = sym (own there.1 there.0) ∙ ap (λ (t : Extent). t.first) there.3 in
        let inside = there.2.0 in
        omega (arith, is, inside)
