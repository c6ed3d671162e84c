-- Two lists in one strict order with equal entries are equal.
use Rattle.std.proofs.Common.{◌≡◌, List, [], ◌∷◌, get_or, refl, ap, sym, subst, ◌∙◌, arith, inl, inr}
use Rattle.std.specs.List.{All, AllPairs, Contains}
use Rattle.std.proofs.lemmas.List.Elements.{All-contains, All-head, All-tail}
use Rattle.overlay_geom.proofs.Entries.{Contains-cases}
use Rattle.overlay_geom.proofs.Merging.{AllPairs-head, AllPairs-tail}

module _ {X : Type 0} (R : X → X → Type 0) (apart : (x : X) → ¬ (R x x))
    (on : (x y z : X) → R x y → R y z → R x z) where
  -- the first entries of both are equal
  same_first : (x : X) (xs : List X) (y : X) (ys : List X) → All (R x) xs → All (R y) ys → Contains (y ∷ ys) x →
      Contains (x ∷ xs) y → x ≡ y
  same_first x xs y ys x_first y_first has_x has_y =
      elim (Contains-cases y ys x has_x) [
        | inl same ↦ sym same
        | inr x_later ↦ elim (Contains-cases x xs y has_y) [
          | inl same ↦ same
          | inr y_later ↦ absurd (apart x (on x y x (All-contains (R x) xs y x_first y_later)
              (All-contains (R y) ys x y_first x_later)))
        ]
      ]

  -- the rest has the same entries
  same_rest : (x : X) (xs ys : List X) → All (R x) xs → All (Contains (x ∷ ys)) xs → All (Contains ys) xs
  same_rest x xs ys first has = λ k d l.
      elim (Contains-cases x ys (get_or xs k d) (has k d l)) [
        | inl same ↦ absurd (apart x (subst (λ (z : X). R x z) (sym same) (first k d l)))
        | inr later ↦ later
      ]

  -- the two lists are equal
  pub same_ascending : (xs ys : List X) → AllPairs R xs → AllPairs R ys → All (Contains ys) xs →
      All (Contains xs) ys → xs ≡ ys
  same_ascending [] [] up_x up_y in_y in_x = refl
  same_ascending [] (y ∷ ys) up_x up_y in_y in_x = absurd (let h : Contains [] y = All-head (Contains []) y ys in_x in
      omega (arith, h.1))
  same_ascending (x ∷ xs) [] up_x up_y in_y in_x = absurd (let h : Contains [] x = All-head (Contains []) x xs in_y in
      omega (arith, h.1))
  same_ascending (x ∷ xs) (y ∷ ys) up_x up_y in_y in_x =
      let x_first : All (R x) xs = AllPairs-head R x xs up_x in
      let y_first : All (R y) ys = AllPairs-head R y ys up_y in
      let same : x ≡ y = same_first x xs y ys x_first y_first (All-head (Contains (y ∷ ys)) x xs in_y)
      (All-head (Contains (x ∷ xs)) y ys in_x) in
      let rest_x : All (Contains ys) xs = same_rest x xs ys x_first
      (subst (λ (z : X). All (Contains (z ∷ ys)) xs) (sym same) (All-tail (Contains (y ∷ ys)) x xs in_y)) in
      let rest_y : All (Contains xs) ys = same_rest y ys xs y_first
      (subst (λ (z : X). All (Contains (z ∷ xs)) ys) same (All-tail (Contains (x ∷ xs)) y ys in_x)) in
      ap (λ z. z ∷ xs) same ∙ ap (λ zs. y ∷ zs) (same_ascending xs ys (AllPairs-tail R x xs up_x)
      (AllPairs-tail R y ys up_y) rest_x rest_y)
