-- A sorted list has the entries and the sums of the list, and each entry is in order with each later entry.
use Rattle.std.proofs.Common.{◌≡◌, ◌⊎◌, inl, inr, ⊎_elim, Bool, true, false, cond, ℤ, ◌+ℤ◌, List, [], ◌∷◌, Contains}
use Rattle.std.proofs.Common.{refl, sym, ap, ◌∙◌, subst}
use Rattle.std.proofs.lemmas.Bool.{false≢true}
use Rattle.overlay_geom.specs.Plane.{total}
use Rattle.overlay_geom.proofs.Identities.{solve, ◌⊕◌, ◌≗◌}
use Rattle.overlay_plane.specs.InOrder.{inserted, in_order}
use Rattle.overlay_plane.proofs.LaterEntries.{Contains-cases, Each}
use Rattle.overlay_plane.proofs.Totals.{Contains-head, Contains-later}

module _ {X : Type 0} (lower : X → X → Bool) where
  -- inserted, an entry adds its number to a sum
  pub total-insert : (f : X → ℤ) (x : X) (ys : List X) → total f (inserted lower x ys) ≡ f x +ℤ total f ys
  total-insert f x [] = refl
  total-insert f x (y ∷ ys) = by (lower x y) (total-insert f x ys)
    where
      by : (t : Bool) → total f (inserted lower x ys) ≡ f x +ℤ total f ys →
          total f (cond t (x ∷ y ∷ ys) (y ∷ inserted lower x ys)) ≡ f x +ℤ (f y +ℤ total f ys)
      by true e = refl
      by false e = ap (λ z. f y +ℤ z) e ∙ solve 3 (λ a b c. b ⊕ (a ⊕ c) ≗ a ⊕ (b ⊕ c)) tt (f x) (f y) (total f ys)

  -- put in order, a list has the same sums
  pub total-in_order : (f : X → ℤ) (xs : List X) → total f (in_order lower xs) ≡ total f xs
  total-in_order f [] = refl
  total-in_order f (x ∷ xs) = total-insert f x (in_order lower xs) ∙ ap (λ z. f x +ℤ z) (total-in_order f xs)

  -- and the same entries
  pub Contains-insert : (x : X) (ys : List X) (z : X) → Contains (inserted lower x ys) z → (x ≡ z) ⊎ Contains ys z
  Contains-insert x [] z c = Contains-cases x [] z c
  Contains-insert x (y ∷ ys) z c = by (lower x y) c (Contains-insert x ys z)
    where
      by : (t : Bool) → Contains (cond t (x ∷ y ∷ ys) (y ∷ inserted lower x ys)) z →
          (Contains (inserted lower x ys) z → (x ≡ z) ⊎ Contains ys z) →
          (x ≡ z) ⊎ Contains (y ∷ ys) z
      by true c h = Contains-cases x (y ∷ ys) z c
      by false c h = ⊎_elim (λ e. inr (subst (λ u. Contains (y ∷ ys) u) e (Contains-head y ys)))
          (λ later. ⊎_elim (λ e. inl e) (λ old. inr (Contains-later y ys z old)) (h later))
          (Contains-cases y (inserted lower x ys) z c)

  -- put in order, a list has no further entries
  pub Contains-in_order : (xs : List X) (z : X) → Contains (in_order lower xs) z → Contains xs z
  Contains-in_order [] z c = c
  Contains-in_order (x ∷ xs) z c = ⊎_elim (λ e. subst (λ u. Contains (x ∷ xs) u) e (Contains-head x xs))
      (λ later. Contains-later x xs z (Contains-in_order xs z later)) (Contains-insert x (in_order lower xs) z c)

  -- x comes before y
  abbrev pub Before : X → X → Type 0
  Before x y = lower x y ≡ true

  -- one of the two comes before the other
  abbrev pub Ordered : X → X → Type 0
  Ordered x y = (lower x y ≡ true) ⊎ (lower y x ≡ true)

  module _ (Good : X → Type 0) (transitive : (x y z : X) → Good x → Good y → Good z → lower x y ≡ true →
      lower y z ≡ true → lower x z ≡ true) where
    -- an insertion keeps the strict order
    insert_keeps_order : (x : X) (ys : List X) → Good x → ((z : X) → Contains ys z → Good z) →
        ((z : X) → Contains ys z → Ordered x z) →
        Each Before ys → Each Before (inserted lower x ys)
    insert_keeps_order x [] gx good ordered h = ((λ z c. elim c.1 [ ]), tt)
    insert_keeps_order x (y ∷ ys) gx good ordered h = by (lower x y) refl
        (insert_keeps_order x ys gx (λ z c. good z (Contains-later y ys z c))
        (λ z c. ordered z (Contains-later y ys z c)) h.1)
      where
        by : (t : Bool) → lower x y ≡ t → Each Before (inserted lower x ys) →
            Each Before (cond t (x ∷ y ∷ ys) (y ∷ inserted lower x ys))
        by true e rest = (
          (λ z c. ⊎_elim (λ is. subst (λ u. lower x u ≡ true) is e)
              (λ later. transitive x y z gx (good y (Contains-head y ys)) (good z (Contains-later y ys z later)) e
              (h.0 z later)) (Contains-cases y ys z c)),
          h,
        )
        by false e rest = (
          (λ z c. ⊎_elim (λ is. subst (λ u. lower y u ≡ true) is first) (λ old. h.0 z old) (Contains-insert x ys z c)),
          rest,
        )
          where
            first : lower y x ≡ true
            first = ⊎_elim (λ t. absurd (false≢true (sym e ∙ t))) (λ t. t) (ordered y (Contains-head y ys))

    -- where the order is total on the list, the list put in order ascends
    pub Each-in_order : (xs : List X) → ((z : X) → Contains xs z → Good z) → Each Ordered xs →
        Each Before (in_order lower xs)
    Each-in_order [] good ordered = tt
    Each-in_order (x ∷ xs) good ordered = insert_keeps_order x (in_order lower xs) (good x (Contains-head x xs))
        (λ z c. good z (Contains-later x xs z (Contains-in_order xs z c)))
        (λ z c. ordered.0 z (Contains-in_order xs z c))
        (Each-in_order xs (λ z c. good z (Contains-later x xs z c)) ordered.1)

-- ---- where several entries may tie

module _ {X : Type 0} (lower : X → X → Bool) where
  -- an inserted list has the inserted entry
  contains_inserted : (x : X) (ys : List X) → Contains (inserted lower x ys) x
  contains_inserted x [] = Contains-head x []
  contains_inserted x (y ∷ ys) = by (lower x y) (contains_inserted x ys)
    where
      by : (t : Bool) → Contains (inserted lower x ys) x → Contains (cond t (x ∷ y ∷ ys) (y ∷ inserted lower x ys)) x
      by true c = Contains-head x (y ∷ ys)
      by false c = Contains-later y (inserted lower x ys) x c

  -- and those that were there
  contains_past_inserted : (x : X) (ys : List X) (z : X) → Contains ys z → Contains (inserted lower x ys) z
  contains_past_inserted x [] z c = elim c.1 [ ]
  contains_past_inserted x (y ∷ ys) z c = by (lower x y) (contains_past_inserted x ys z)
    where
      by : (t : Bool) → (Contains ys z → Contains (inserted lower x ys) z) →
          Contains (cond t (x ∷ y ∷ ys) (y ∷ inserted lower x ys)) z
      by true h = Contains-later x (y ∷ ys) z c
      by false h = ⊎_elim (λ e. subst (λ u. Contains (y ∷ inserted lower x ys) u) e
          (Contains-head y (inserted lower x ys)))
          (λ later. Contains-later y (inserted lower x ys) z (h later)) (Contains-cases y ys z c)

  -- put in order, a list keeps its entries
  pub Contains-put_in_order : (xs : List X) (z : X) → Contains xs z → Contains (in_order lower xs) z
  Contains-put_in_order [] z c = c
  Contains-put_in_order (x ∷ xs) z c = ⊎_elim
      (λ e. subst (λ u. Contains (in_order lower (x ∷ xs)) u) e (contains_inserted x (in_order lower xs)))
      (λ later. contains_past_inserted x (in_order lower xs) z (Contains-put_in_order xs z later))
      (Contains-cases x xs z c)

  -- R is a weak order in which x and y stand where x is lower, and y and x where not
  pub record IsWeakOrder (R : X → X → Type 0) : Type 0 where
    pub transitive : (x y z : X) → R x y → R y z → R x z
    pub passed : (x y : X) → lower x y ≡ true → R x y
    pub failed : (x y : X) → lower x y ≡ false → R y x

  module _ (R : X → X → Type 0) (order : IsWeakOrder R) where
    -- an insertion keeps the weak order
    insert_keeps_weak_order : (x : X) (ys : List X) → Each R ys → Each R (inserted lower x ys)
    insert_keeps_weak_order x [] h = ((λ z c. elim c.1 [ ]), tt)
    insert_keeps_weak_order x (y ∷ ys) h = by (lower x y) refl (insert_keeps_weak_order x ys h.1)
      where
        by : (t : Bool) → lower x y ≡ t → Each R (inserted lower x ys) →
            Each R (cond t (x ∷ y ∷ ys) (y ∷ inserted lower x ys))
        by true e rest = (
          (λ z c. ⊎_elim (λ is. subst (λ u. R x u) is (order.passed x y e))
              (λ later. order.transitive x y z (order.passed x y e) (h.0 z later)) (Contains-cases y ys z c)),
          h,
        )
        by false e rest = (
          (λ z c. ⊎_elim (λ is. subst (λ u. R y u) is (order.failed x y e)) (λ old. h.0 z old)
              (Contains-insert lower x ys z c)),
          rest,
        )

    -- put in order, each entry is in weak order with each later one
    pub Each-in_weak_order : (xs : List X) → Each R (in_order lower xs)
    Each-in_weak_order [] = tt
    Each-in_weak_order (x ∷ xs) = insert_keeps_weak_order x (in_order lower xs) (Each-in_weak_order xs)
