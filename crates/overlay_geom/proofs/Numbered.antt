-- Items with their places, and a list written item by item at these places.
use Rattle.std.proofs.Common.{◌≡◌, ◌≢◌, ⊎_elim, ℕ, zero, suc, ◌+◌, ◌<◌, ◌≤◌, List, [], ◌∷◌, ◌++◌, map, length, take}
use Rattle.std.proofs.Common.{drop, get_or, Contains, refl, sym, ap, ◌∙◌, subst, arith}
use Rattle.std.specs.List.{All, slice_set}
use Rattle.std.specs.List.Sorted.{IsPermutation}
use Rattle.std.proofs.lemmas.Bool.{cases_lt}
use Rattle.std.proofs.lemmas.List.{length-map, same_lists, take_more, take_all, take-append-drop, get_or_default}
use Rattle.std.proofs.lemmas.List.{get_or-set_same, get_or-set_other}
use Rattle.std.proofs.lemmas.List.Elements.{All-contains, All-push, All-cons, All-nil, Contains-append_left}
use Rattle.std.proofs.lemmas.List.Elements.{Contains-get_or}
use Rattle.std.proofs.Math.Nat.{eq-or-lt_of_le}
use Rattle.std.proofs.lemmas.List.Sorted.{All-permutation, Contains-permutation, IsPermutation-map}
use Rattle.overlay_geom.specs.Numbered.{Numbered, numbered, AreNumbered}
use Rattle.overlay_geom.proofs.Entries.{Contains-head, Contains-later}
use Rattle.overlay_geom.proofs.Mapped.{read_mapped}

-- one item more at its place
pub numbered_more : {X : Type 0} (n : ℕ) (xs : List X) (x : X) → numbered n (xs ++ x ∷ []) ≡ numbered n xs
    ++ record { item = x; place = n + length xs } ∷ []
numbered_more n [] x = ap (λ m. record { item = x; place = m } ∷ []) (omega arith)
numbered_more n (y ∷ xs) x = ap (λ ns. record { item = y; place = n } ∷ ns)
    (numbered_more (suc n) xs x ∙ ap (λ m. numbered (suc n) xs ++ record { item = x; place = m } ∷ []) (omega arith))

-- without their places they are the items
pub items_numbered : {X : Type 0} (n : ℕ) (xs : List X) → map (λ (m : Numbered X). m.item) (numbered n xs) ≡ xs
items_numbered n [] = refl
items_numbered n (x ∷ xs) = ap (λ ys. x ∷ ys) (items_numbered (suc n) xs)

-- the item stands at its place
abbrev StandsThere : {X : Type 0} → List X → Numbered X → Type 0
StandsThere xs n = (n.place < length xs) × (get_or xs n.place n.item ≡ n.item)

-- each item stands at its place
numbered_from : {X : Type 0} (all : List X) (n : ℕ) (xs : List X) →
    ((k : ℕ) (d : X) → k < length xs → (n + k < length all) × (get_or all (n + k) d ≡ get_or xs k d)) →
    All (StandsThere all) (numbered n xs)
numbered_from all n [] at = All-nil (StandsThere all)
numbered_from all n (x ∷ xs) at = All-cons (StandsThere all) (record { item = x; place = n }) (numbered (suc n) xs)
    (let first = at 0 x (omega arith) in let same : n + 0 ≡ n = omega arith in
    subst (λ m. (m < length all) × (get_or all m x ≡ x)) same first)
    (numbered_from all (suc n) xs (λ k d lt.
    let next = at (suc k) d (omega (arith, lt)) in let same : n + suc k ≡ suc n + k = omega arith in
    subst (λ m. (m < length all) × (get_or all m d ≡ get_or xs k d)) same next))

-- each place has an item
numbered_all : {X : Type 0} (n : ℕ) (xs : List X) (k : ℕ) → k < length xs →
    Contains (map (λ (m : Numbered X). m.place) (numbered n xs)) (n + k)
numbered_all n [] k lt = absurd (omega (arith, lt))
numbered_all n (x ∷ xs) zero lt = subst (Contains (n ∷ map (λ m. m.place) (numbered (suc n) xs)))
    (let m : n ≡ n + 0 = omega arith in m) (Contains-head n (map (λ m. m.place) (numbered (suc n) xs)))
numbered_all n (x ∷ xs) (suc k) lt = Contains-later n (map (λ m. m.place) (numbered (suc n) xs)) (n + suc k)
    (subst (Contains (map (λ m. m.place) (numbered (suc n) xs))) (let m : suc n + k ≡ n + suc k = omega arith in
    m) (numbered_all (suc n) xs k (omega (arith, lt))))

-- in any order they are the items with their places
pub numbered_shuffled : {X : Type 0} (xs : List X) (ns : List (Numbered X)) → IsPermutation (numbered 0 xs) ns →
    AreNumbered xs ns
numbered_shuffled {X} xs ns moved = record {
  from = All-permutation (StandsThere xs) (numbered 0 xs) ns moved
      (numbered_from xs 0 xs (λ k d lt. let same : k ≡ 0 + k = omega arith in
      subst (λ m. (m < length xs) × (get_or xs m d ≡ get_or xs k d)) same (lt, refl)));
  all = λ k lt. Contains-permutation (map (λ n. n.place) (numbered 0 xs)) (map (λ n. n.place) ns) k
      (IsPermutation-map (λ n. n.place) (numbered 0 xs) ns moved)
      (subst (Contains (map (λ (n : Numbered X). n.place) (numbered 0 xs))) (let same : 0 + k ≡ k = omega arith in
      same) (numbered_all 0 xs k lt));
}

module _ {X Y : Type 0} (P : X → Y → Type 0) (d : Y) (xs : List X) (ns : List (Numbered X))
    (are : AreNumbered xs ns) where
  -- the item's place is told of it
  abbrev IsToldOf : List Y → Numbered X → Type 0
  IsToldOf ys n = P n.item (get_or ys n.place d)

  stands : (n : Numbered X) → Contains ns n → StandsThere xs n
  stands n c = All-contains (StandsThere xs) ns n are.from c

  -- those at one place are equal
  one_item : (n m : Numbered X) → Contains ns n → Contains ns m → n.place ≡ m.place → n.item ≡ m.item
  one_item n m c e same =
      sym (stands n c).1 ∙ get_or_default xs n.place n.item m.item (stands n c).0 ∙ ap (λ k. get_or xs k m.item) same
      ∙ (stands m e).1

  -- one item more is told of
  pub told_more : (ys : List Y) → length ys ≡ length xs → (i : ℕ) (n : Numbered X) → i < length ns → get_or ns i n ≡ n →
      (y : Y) → P n.item y →
      All (IsToldOf ys) (take i ns) → All (IsToldOf (slice_set ys n.place y)) (take (i + 1) ns)
  told_more ys counted i n lt is y right told =
      subst (All (IsToldOf (slice_set ys n.place y))) (sym (take_more ns i n lt ∙ ap (λ m. take i ns ++ m ∷ []) is))
      (All-push (IsToldOf (slice_set ys n.place y)) (take i ns) n
      (λ k e h. before (get_or (take i ns) k e) (Contains-get_or (take i ns) k e h))
      (subst (P n.item) (sym (get_or-set_same ys n.place y d within)) right))
    where
      own : Contains ns n
      own = (i, lt, is)

      within : n.place < length ys
      within = let less = (stands n own).0 in omega (arith, counted)

      before : (m : Numbered X) → Contains (take i ns) m → IsToldOf (slice_set ys n.place y) m
      before m c = ⊎_elim (λ less. other (λ same. omega (arith, less, same)))
          (λ le. ⊎_elim (λ same. here (sym same)) (λ more. other (λ same. omega (arith, more, same)))
          (eq-or-lt_of_le le))
          (cases_lt m.place n.place)
        where
          among : Contains ns m
          among = subst (λ ts. Contains ts m) (take-append-drop i ns) (Contains-append_left (take i ns) (drop i ns) m c)

          other : m.place ≢ n.place → IsToldOf (slice_set ys n.place y) m
          other apart = subst (P m.item) (sym (get_or-set_other ys n.place m.place y d apart))
              (All-contains (IsToldOf ys) (take i ns) m told c)

          here : m.place ≡ n.place → IsToldOf (slice_set ys n.place y) m
          here same = subst (λ k. P m.item (get_or (slice_set ys n.place y) k d)) (sym same)
              (subst (P m.item) (sym (get_or-set_same ys n.place y d within))
              (subst (λ x. P x y) (sym (one_item m n among own same)) right))

  -- where it is told of all, it is told of the list's items in their order
  pub all_told : (ys : List Y) → length ys ≡ length xs → (i : ℕ) → length ns ≤ i → All (IsToldOf ys) (take i ns) →
      (k : ℕ) (x : X) (y : Y) → k < length xs → P (get_or xs k x) (get_or ys k y)
  all_told ys counted i past told k x y lt = at (are.all k lt)
    where
      at : Contains (map (λ (n : Numbered X). n.place) ns) k → P (get_or xs k x) (get_or ys k y)
      at c = subst (λ v. P v (get_or ys k y)) (sym (stands n own).1 ∙ get_or_default xs n.place n.item x
          (stands n own).0 ∙ ap (λ m. get_or xs m x) same)
          (subst (P n.item) (ap (λ m. get_or ys m d) same ∙ get_or_default ys k d y (omega (arith, lt, counted)))
          (All-contains (IsToldOf ys) ns n (subst (All (IsToldOf ys)) (take_all i ns past) told) own))
        where
          within : c.0 < length ns
          within = let l = length-map ns (λ (n : Numbered X). n.place) in let h = c.1 in omega (arith, l, h)

          n : Numbered X
          n = get_or ns c.0 (record { item = x; place = k })

          own : Contains ns n
          own = Contains-get_or ns c.0 (record { item = x; place = k }) within

          same : n.place ≡ k
          same = sym (read_mapped (λ (m : Numbered X). m.place) ns c.0 n k within
              (get_or_default ns c.0 (record { item = x; place = k }) n within)) ∙ c.2

-- a list with a function's value for each item is the mapped list
pub told_by_function : {X Y : Type 0} (f : X → Y) (xs : List X) (ys : List Y) → length ys ≡ length xs →
    ((k : ℕ) (x : X) (y : Y) → k < length xs → get_or ys k y ≡ f (get_or xs k x)) → ys ≡ map f xs
told_by_function f xs ys counted told = same_lists ys (map f xs) (counted ∙ sym (length-map xs f))
    (λ k d lt. read k d (omega (arith, lt, counted)))
  where
    read : (k : ℕ) (d : _) → k < length xs → get_or ys k d ≡ get_or (map f xs) k d
    read k d lt = at xs refl
      where
        at : (zs : List _) → zs ≡ xs → get_or ys k d ≡ get_or (map f xs) k d
        at [] is = absurd (let none = ap length is in omega (arith, lt, none))
        at (z ∷ zs) is = told k z d lt
            ∙ sym (read_mapped f xs k (get_or xs k z) d lt (get_or_default xs k z (get_or xs k z) lt))
