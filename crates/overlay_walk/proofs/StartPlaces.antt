-- The places of steps by where their edges start, and those of them that are passed.
use Rattle.std.proofs.Common.{◌≡◌, ⊎_elim, ℕ}
use Rattle.std.proofs.Common.{◌+◌, ◌<◌, ◌≤◌, Bool, true, false, List, [], ◌∷◌, ◌++◌, length, get_or, Contains, sym}
use Rattle.std.proofs.Common.{ap, ◌∙◌, subst, below_more, nat_lt, arith}
use Rattle.std.specs.List.Sorted.{IsPermutation}
use Rattle.std.specs.Prelude.{set, filter, AllPairs}
use Rattle.std.proofs.lemmas.Bool.{both_ways, false_from_ne_true, cases_lt, ltb-true, lt-ltb}
use Rattle.std.proofs.lemmas.Grind.{get_or_default_zero}
use Rattle.std.proofs.lemmas.List.{get_or-set_same, get_or-set_other, length-set}
use Rattle.std.proofs.lemmas.List.Elements.{All-push, All-weaker, Contains-append_left, Contains-push}
use Rattle.std.proofs.lemmas.List.Sorted.{All-permutation, Contains-permutation}
use Rattle.overlay_geom.specs.Plane.{Step, edge_of}
use Rattle.overlay_plane.proofs.Entries.{all_of_entries, Contains-filter, Contains-from_filter}
use Rattle.overlay_walk.specs.Places.{is_open, step_at, is_place_top_first, ArePassed, HasBelow, HasPlaces}
use Rattle.overlay_walk.specs.Places.{ArePlacesTopFirst}
use Rattle.overlay_walk.proofs.FirstPlaces.{IsFirstPlace}
use Rattle.overlay_walk.proofs.OpenPlaces.{marked_is_open}
use Rattle.overlay_walk.proofs.StartOrder.{comes_top_first-itself}

-- ---- the places

-- one more place is put where none of those before stands
pub place_put : (xs : List ℕ) (place at held : ℕ) → HasBelow place xs → at < length xs → held ≡ get_or xs at held →
    place ≤ held → HasBelow (place + 1) (set xs at place)
place_put xs place at held has within is free = below_more (λ k. Contains (set xs at place) k) place
    (λ k lt. still k lt (has k lt))
    (at, omega (arith, within, length-set xs at place), get_or-set_same xs at place place within)
  where
    still : (k : ℕ) → k < place → Contains xs k → Contains (set xs at place) k
    still k lt stands = (
      stands.0,
      omega (arith, stands.1, length-set xs at place),
      get_or-set_other xs at stands.0 place k (λ same. absurd
          (place_is_none (ap (λ j. get_or xs j 0) (sym same)
          ∙ sym (get_or_default_zero xs stands.0 k stands.1) ∙ stands.2))) ∙ stands.2,
    )
      where
        place_is_none : get_or xs at 0 ≡ k → ⊥
        place_is_none same = let none : held ≡ k = is ∙ get_or_default_zero xs at held within ∙ same in
            omega (arith, none, free, lt)

-- one more place is added behind all before
pub place_pushed : (n : ℕ) (xs : List ℕ) → HasPlaces n xs → HasPlaces (n + 1) (xs ++ n ∷ [])
place_pushed n xs has = record {
  within = All-push (λ k. k < n + 1) xs n
      (All-weaker (λ k. k < n) (λ k. k < n + 1) (λ k lt. omega (arith, lt)) xs has.within) (omega arith);
  all = below_more (λ k. Contains (xs ++ n ∷ []) k) n (λ k lt. Contains-append_left xs (n ∷ []) k (has.all k lt))
      (Contains-push xs n);
}

-- places below n are kept
pub places_kept : (n : ℕ) (xs : List ℕ) → HasBelow n xs → HasPlaces n (filter (λ k. nat_lt k n) xs)
places_kept n xs has = record {
  within = all_of_entries (λ k. k < n) (filter (λ k. nat_lt k n) xs)
      (λ k c. ltb-true k n (Contains-from_filter (λ m. nat_lt m n) xs k c).1);
  all = λ k lt. Contains-filter (λ m. nat_lt m n) xs k (has k lt) (lt-ltb k n lt);
}

-- sorted, they are the places by the starts
pub places_sorted : (ss : List Step) (xs ys : List ℕ) → HasPlaces (length ss) xs → IsPermutation xs ys →
    AllPairs (λ j k. is_place_top_first ss k j ≡ false) ys → ArePlacesTopFirst ss ys
places_sorted ss xs ys has moved order = record {
  within = All-permutation (λ k. k < length ss) xs ys moved has.within;
  all = λ k lt. Contains-permutation xs ys k moved (has.all k lt);
  order = order;
}

-- ---- those that are passed

module _ (marks : List Bool) (places : List ℕ) where
  -- none is passed at first
  pub none_passed : ArePassed marks places 0
  none_passed = record { within = omega arith; shut = λ i h. absurd (omega arith) }

  -- one more, which is not open
  pub passed_more : (n : ℕ) → ArePassed marks places n → n < length places →
      is_open marks (get_or places n 0) ≡ false → ArePassed marks places (n + 1)
  passed_more n passed within shut = record {
    within = omega arith;
    shut = below_more (λ i. is_open marks (get_or places i 0) ≡ false) n passed.shut shut;
  }

  -- a mark more leaves them passed
  pub passed_still : (n k : ℕ) → ArePassed marks places n → ArePassed (set marks k true) places n
  passed_still n k passed = record {
    within = passed.within;
    shut = λ i h. false_from_ne_true (is_open (set marks k true) (get_or places i 0))
        (λ opened. both_ways (is_open marks (get_or places i 0)) (passed.shut i h)
        (marked_is_open marks k (get_or places i 0) opened));
  }

  module _ (ss : List Step) (top_first : ArePlacesTopFirst ss places) (n : ℕ) (passed : ArePassed marks places n) where
    -- where all are passed no place of the steps is open
    pub none_open : n ≡ length places → (k : ℕ) → 0 ≤ k → k < length ss → is_open marks k ≡ false
    none_open whole k low h =
        let at = top_first.all k h in
        let within = at.1 in
        subst (λ j. is_open marks j ≡ false) (sym (get_or_default_zero places at.0 k at.1) ∙ at.2)
        (passed.shut at.0 (omega arith))

    -- the place after them, if it is open, is the first place by the starts of the edges
    first_place : n < length places → is_open marks (get_or places n 0) ≡ true →
        IsFirstPlace (is_open marks) (is_place_top_first ss) 0 (length ss) (get_or places n 0)
    first_place within opened = record {
      above = omega arith;
      below = top_first.within n 0 within;
      untaken = opened;
      first = λ k low h at.
          let stands = top_first.all k h in
          subst (λ j. is_place_top_first ss j (get_or places n 0) ≡ false)
          (sym (get_or_default_zero places stands.0 k stands.1) ∙ stands.2)
          (later stands.0 stands.1 (subst (λ j. is_open marks j ≡ true)
          (sym stands.2 ∙ get_or_default_zero places stands.0 k stands.1) at));
    }
      where
        later : (i : ℕ) → i < length places → is_open marks (get_or places i 0) ≡ true →
            is_place_top_first ss (get_or places i 0) (get_or places n 0) ≡ false
        later i h at = ⊎_elim
            (λ earlier. absurd (both_ways (is_open marks (get_or places i 0)) (passed.shut i earlier) at))
            (λ up. ⊎_elim (λ after. top_first.order n i 0 after h)
            (λ back. let same : n ≡ i = omega arith in
            subst (λ j. is_place_top_first ss (get_or places j 0) (get_or places n 0) ≡ false) same
            (comes_top_first-itself (edge_of (step_at ss (get_or places n 0)))))
            (cases_lt n i))
            (cases_lt i n)

    -- the place, read with its own default, is the first too
    pub place_read : (count m : ℕ) → length ss ≡ count → n < length places → m ≡ get_or places n m →
        (n < length places → is_open marks (get_or places n 0) ≡ true) →
        IsFirstPlace (is_open marks) (is_place_top_first ss) 0 count m
    place_read count m counted within is opened =
        subst (λ k. IsFirstPlace (is_open marks) (is_place_top_first ss) 0 k m) counted
        (subst (λ k. IsFirstPlace (is_open marks) (is_place_top_first ss) 0 (length ss) k)
        (sym (is ∙ get_or_default_zero places n m within))
        (first_place within (opened within)))
