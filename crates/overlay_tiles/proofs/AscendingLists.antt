-- Ascending lists of whole numbers: one more at the end, and how long they may be.
use Rattle.std.proofs.Common.{◌≡◌, ◌⊎◌, inl, inr, ⊎_elim, ℕ, zero, suc, ◌-◌, ◌<◌, ◌≤◌, ◌<ℤ◌, List, [], ◌∷◌, ◌++◌}
use Rattle.std.proofs.Common.{length, get_or, All, sym, ap, ◌∙◌, subst₂, arith, ℤ, pos}
use Rattle.std.specs.List.{AllPairs, Contains}
use Rattle.std.proofs.lemmas.Bool.{cases_lt, cases_eq}
use Rattle.std.proofs.lemmas.List.{length_push, get_or_append_left, get_or_push, get_or_default}
use Rattle.overlay_geom.proofs.Signs.{linear}

-- each is below each later one
abbrev pub IsAscending : List ℤ → Type 0
IsAscending zs = AllPairs (λ a b. a <ℤ b) zs

pub none_ascending : IsAscending []
none_ascending i j d lt within = absurd (omega arith)

-- an ascending list, and a number above all of it
pub push_ascending : (zs : List ℤ) (z : ℤ) → IsAscending zs → All (λ y. y <ℤ z) zs → IsAscending (zs ++ z ∷ [])
push_ascending zs z up below i j d lt within = by (cases_lt j (length zs))
  where
    by : (j < length zs) ⊎ (length zs ≤ j) → get_or (zs ++ z ∷ []) i d <ℤ get_or (zs ++ z ∷ []) j d
    by (inl inside) =
        subst₂ (λ a b. a <ℤ b) (sym (get_or_append_left zs (z ∷ []) d i (omega arith)))
        (sym (get_or_append_left zs (z ∷ []) d j inside)) (up i j d lt inside)
    by (inr past) =
        let long = length_push zs z in
        let last : length zs ≡ j = omega arith in
        subst₂ (λ a b. a <ℤ b) (sym (get_or_append_left zs (z ∷ []) d i (omega arith)))
        (sym (get_or_push zs z d j last)) (below i d (omega arith))

-- what stands at two places of an ascending list is in order where the places are
in_order : (zs : List ℤ) → IsAscending zs → (i j : ℕ) (y z : ℤ) → i < length zs → get_or zs i y ≡ y →
    get_or zs j z ≡ z →
    y <ℤ z → i < j
in_order zs up i j y z within at_y at_z less = by (cases_lt i j)
  where
    equal : i ≡ j → y ≡ z
    equal same = sym at_y ∙ get_or_default zs i y z within ∙ ap (λ k. get_or zs k z) same ∙ at_z

    against : (j < i) ⊎ (i ≡ j) → ⊥
    against (inl lt) =
        let other : z <ℤ y = subst₂ (λ a b. a <ℤ b) at_z (get_or_default zs i z y within ∙ at_y)
        (up j i z lt within) in
        omega linear
    against (inr same) = let one = equal same in omega linear

    by : (i < j) ⊎ (j ≤ i) → i < j
    by (inl lt) = lt
    by (inr le) = absurd (against (⊎_elim (λ e. inr e) (λ n. inl (omega arith)) (cases_eq i j)))

module _ (xs ys : List ℤ) (xs_up : IsAscending xs) (ys_up : IsAscending ys) (within : All (Contains ys) xs) where
  -- the number at a place of the one list stands at no earlier place in the other
  no_earlier : (i : ℕ) → i < length xs → (k : ℕ) × (k < length ys) × (get_or ys k (get_or xs i (pos 0)) ≡ get_or xs i
      (pos 0)) × (i ≤ k)
  no_earlier zero lt = let here = within 0 (pos 0) lt in (here.0, here.1, here.2, omega arith)
  no_earlier (suc i) lt = on (no_earlier i (omega arith))
    where
      on : ((k : ℕ) × (k < length ys) × (get_or ys k (get_or xs i (pos 0)) ≡ get_or xs i (pos 0)) × (i ≤ k)) →
          (k : ℕ) × (k < length ys) × (get_or ys k (get_or xs (suc i) (pos 0)) ≡ get_or xs (suc i) (pos 0)) × (suc
          i ≤ k)
      on (k, inside, at, so_far) = further (within (suc i) (pos 0) lt)
        where
          further : Contains ys (get_or xs (suc i) (pos 0)) →
              (m : ℕ) × (m < length ys) × (get_or ys m (get_or xs (suc i) (pos 0)) ≡ get_or xs (suc i) (pos 0))
              × (suc i ≤ m)
          further (m, inside_too, there) =
              let later : k < m = in_order ys ys_up k m (get_or xs i (pos 0)) (get_or xs (suc i) (pos 0)) inside at
              there (xs_up i (suc i) (pos 0) (omega arith) lt) in (m, inside_too, there, omega arith)

  -- so an ascending list that has all numbers of another one is no shorter
  pub no_longer : length xs ≤ length ys
  no_longer = by (cases_lt 0 (length xs))
    where
      ends : ((k : ℕ) × (k < length ys) × (get_or ys k (get_or xs (length xs - 1) (pos 0)) ≡ get_or xs (length xs - 1)
          (pos 0)) × (length xs - 1 ≤ k)) → length xs ≤ length ys
      ends (k, inside, _, far) = omega arith

      by : (0 < length xs) ⊎ (length xs ≤ 0) → length xs ≤ length ys
      by (inl some) = ends (no_earlier (length xs - 1) (omega arith))
      by (inr none) = omega arith
