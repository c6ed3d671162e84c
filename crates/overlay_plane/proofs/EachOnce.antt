-- Lists put into strict order in which each entry stands once, in place of all that tie with it.
use Rattle.std.proofs.Common.{◌≡◌, ◌⊎◌, inl, inr, ⊎_elim, Bool, true, false, cond, List, [], ◌∷◌, Contains, refl, subst}
use Rattle.overlay_plane.proofs.LaterEntries.{Contains-cases, Each}
use Rattle.overlay_plane.proofs.Totals.{Contains-head, Contains-later}

module _ {X : Type 0} (lower : X → X → Bool) where
  -- x put before the first entry that it is lower than, and dropped where it ties with one
  abbrev pub inserted_once : X → List X → List X
  inserted_once x [] = x ∷ []
  inserted_once x (y ∷ ys) = cond (lower x y) (x ∷ y ∷ ys) (cond (lower y x) (y ∷ inserted_once x ys) (y ∷ ys))

  -- the entries put in one after the other
  abbrev pub each_once : List X → List X
  each_once [] = []
  each_once (x ∷ xs) = inserted_once x (each_once xs)

  -- neither of the two is lower
  abbrev pub Tie : X → X → Type 0
  Tie x y = (lower x y ≡ false) × (lower y x ≡ false)

  -- ---- the entries

  -- an entry after an insertion is the new or an old one
  inserted_entry : (x : X) (ys : List X) (z : X) → Contains (inserted_once x ys) z → (x ≡ z) ⊎ Contains ys z
  inserted_entry x [] z c = Contains-cases x [] z c
  inserted_entry x (y ∷ ys) z c = by (lower x y) (lower y x) c (inserted_entry x ys z)
    where
      by : (s t : Bool) → Contains (cond s (x ∷ y ∷ ys) (cond t (y ∷ inserted_once x ys) (y ∷ ys))) z →
          (Contains (inserted_once x ys) z → (x ≡ z) ⊎ Contains ys z) →
          (x ≡ z) ⊎ Contains (y ∷ ys) z
      by true t c h = Contains-cases x (y ∷ ys) z c
      by false true c h = ⊎_elim (λ e. inr (subst (λ u. Contains (y ∷ ys) u) e (Contains-head y ys)))
          (λ later. ⊎_elim (λ e. inl e) (λ old. inr (Contains-later y ys z old)) (h later))
          (Contains-cases y (inserted_once x ys) z c)
      by false false c h = inr c

  -- each entry stands in the list that was put in order
  pub once_entry : (xs : List X) (z : X) → Contains (each_once xs) z → Contains xs z
  once_entry [] z c = c
  once_entry (x ∷ xs) z c = ⊎_elim (λ e. subst (λ u. Contains (x ∷ xs) u) e (Contains-head x xs))
      (λ later. Contains-later x xs z (once_entry xs z later)) (inserted_entry x (each_once xs) z c)

  -- an insertion keeps the old entries
  kept_entry : (x : X) (ys : List X) (z : X) → Contains ys z → Contains (inserted_once x ys) z
  kept_entry x [] z c = elim c.1 [ ]
  kept_entry x (y ∷ ys) z c = by (lower x y) (lower y x) (kept_entry x ys z)
    where
      by : (s t : Bool) → (Contains ys z → Contains (inserted_once x ys) z) →
          Contains (cond s (x ∷ y ∷ ys) (cond t (y ∷ inserted_once x ys) (y ∷ ys))) z
      by true t h = Contains-later x (y ∷ ys) z c
      by false true h = ⊎_elim (λ e. subst (λ u. Contains (y ∷ inserted_once x ys) u) e
          (Contains-head y (inserted_once x ys)))
          (λ later. Contains-later y (inserted_once x ys) z (h later)) (Contains-cases y ys z c)
      by false false h = c

  module _ (irreflexive : (x : X) → lower x x ≡ false) where
    -- the list has an entry that ties with the new entry
    new_entry : (x : X) (ys : List X) → (z : X) × Contains (inserted_once x ys) z × Tie x z
    new_entry x [] = (x, Contains-head x [], (irreflexive x, irreflexive x))
    new_entry x (y ∷ ys) = by (lower x y) (lower y x) refl refl (new_entry x ys)
      where
        by : (s t : Bool) → lower x y ≡ s → lower y x ≡ t → (z : X) × Contains (inserted_once x ys) z × Tie x z →
            (z : X) × Contains (cond s (x ∷ y ∷ ys) (cond t (y ∷ inserted_once x ys) (y ∷ ys))) z × Tie x z
        by true t e f h = (x, Contains-head x (y ∷ ys), (irreflexive x, irreflexive x))
        by false true e f h = (h.0, Contains-later y (inserted_once x ys) h.0 h.1, h.2)
        by false false e f h = (y, Contains-head y ys, (e, f))

    -- each entry of the list has one that ties with it
    pub once_each : (xs : List X) (x : X) → Contains xs x → (z : X) × Contains (each_once xs) z × Tie x z
    once_each [] x c = elim c.1 [ ]
    once_each (y ∷ ys) x c = ⊎_elim
        (λ e. subst (λ u. (z : X) × Contains (each_once (y ∷ ys)) z × Tie u z) e (new_entry y (each_once ys)))
        (λ later. let old = once_each ys x later in (old.0, kept_entry y (each_once ys) old.0 old.1, old.2))
        (Contains-cases y ys x c)

  -- ---- the order

  -- the first is lower than the second
  abbrev pub IsLower : X → X → Type 0
  IsLower x y = lower x y ≡ true

  module _ (transitive : (x y z : X) → lower x y ≡ true → lower y z ≡ true → lower x z ≡ true) where
    -- an insertion keeps the strict order
    insert_keeps_strict_order : (x : X) (ys : List X) → Each IsLower ys → Each IsLower (inserted_once x ys)
    insert_keeps_strict_order x [] h = ((λ z c. elim c.1 [ ]), tt)
    insert_keeps_strict_order x (y ∷ ys) h = by (lower x y) (lower y x) refl refl (insert_keeps_strict_order x ys h.1)
      where
        by : (s t : Bool) → lower x y ≡ s → lower y x ≡ t → Each IsLower (inserted_once x ys) →
            Each IsLower (cond s (x ∷ y ∷ ys) (cond t (y ∷ inserted_once x ys) (y ∷ ys)))
        by true t e f rest = (
          (λ z c. ⊎_elim (λ is. subst (λ u. lower x u ≡ true) is e) (λ later. transitive x y z e (h.0 z later))
              (Contains-cases y ys z c)),
          h,
        )
        by false true e f rest = (
          (λ z c. ⊎_elim (λ is. subst (λ u. lower y u ≡ true) is f) (λ old. h.0 z old) (inserted_entry x ys z c)),
          rest,
        )
        by false false e f rest = h

    -- each entry is lower than each later one
    pub once_ascends : (xs : List X) → Each IsLower (each_once xs)
    once_ascends [] = tt
    once_ascends (x ∷ xs) = insert_keeps_strict_order x (each_once xs) (once_ascends xs)
