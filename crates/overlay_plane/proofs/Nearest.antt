-- The least entry of a list by a strict order, among those that pass a test.
use Rattle.std.proofs.Common.{◌≡◌, ◌⊎◌, inl, inr, ⊎_elim, Bool, true, false, List, [], ◌∷◌, Contains, refl, sym, subst}
use Rattle.std.proofs.lemmas.Bool.{both_ways, false_from_ne_true}
use Rattle.overlay_plane.proofs.Totals.{Contains-head, Contains-later}
use Rattle.overlay_plane.proofs.LaterEntries.{Contains-cases}

-- the entry passes the test, and no other that passes comes before it
pub record IsNearest {X : Type 0} (passes : X → Bool) (lower : X → X → Bool) (xs : List X) (m : X) : Type 0 where
  pub among : Contains xs m
  pub passed : passes m ≡ true
  pub first : (z : X) → Contains xs z → passes z ≡ true → lower z m ≡ false

module _ {X : Type 0} (passes : X → Bool) (lower : X → X → Bool) (irreflexive : (x : X) → lower x x ≡ false)
    (transitive : (x y z : X) → lower x y ≡ true → lower y z ≡ true → lower x z ≡ true) where
  -- no entry passes, or there is a least one that does
  abbrev Found : List X → Type 0
  Found xs = ((z : X) → Contains xs z → passes z ≡ false) ⊎ ((m : X) × IsNearest passes lower xs m)

  -- the head passes, and comes before the least entry of the rest, if there is one
  head_first : (x : X) (xs : List X) → passes x ≡ true →
      ((z : X) → Contains xs z → passes z ≡ true → lower z x ≡ false) → IsNearest passes lower (x ∷ xs) x
  head_first x xs e first = record {
    among = Contains-head x xs;
    passed = e;
    first = λ z c p. ⊎_elim (λ is. subst (λ w. lower w x ≡ false) is (irreflexive x)) (λ later. first z later p)
        (Contains-cases x xs z c);
  }

  -- the least entry of the rest does not come after the head
  rest_first : (x : X) (xs : List X) (m : X) → IsNearest passes lower xs m → (passes x ≡ true → lower x m ≡ false) →
      IsNearest passes lower (x ∷ xs) m
  rest_first x xs m h kept = record {
    among = Contains-later x xs m h.among;
    passed = h.passed;
    first = λ z c p. ⊎_elim (λ is. subst (λ w. lower w m ≡ false) is (kept (subst (λ w. passes w ≡ true) (sym is) p)))
        (λ later. h.first z later p) (Contains-cases x xs z c);
  }

  -- by going through the list from its end
  found : (xs : List X) → Found xs
  found [] = inl (λ z c. absurd (elim c.1 [ ]))
  found (x ∷ xs) = by (passes x) refl (found xs)
    where
      by : (t : Bool) → passes x ≡ t → Found xs → Found (x ∷ xs)
      by false e (inl none) = inl (λ z c. ⊎_elim (λ is. subst (λ w. passes w ≡ false) is e) (λ later. none z later)
          (Contains-cases x xs z c))
      by false e (inr (m, h)) = inr (m, rest_first x xs m h (λ p. absurd (both_ways (passes x) e p)))
      by true e (inl none) = inr (x, head_first x xs e (λ z c p. absurd (both_ways (passes z) (none z c) p)))
      by true e (inr (m, h)) = between (lower x m) refl
        where
          between : (t : Bool) → lower x m ≡ t → Found (x ∷ xs)
          between true low = inr (
            x,
            head_first x xs e
                (λ z c p. false_from_ne_true (lower z x)
                (λ below. both_ways (lower z m) (h.first z c p) (transitive z x m below low))),
          )
          between false not_low = inr (m, rest_first x xs m h (λ p. not_low))

  -- where an entry passes, there is a least one that does
  pub nearest : (xs : List X) (x : X) → Contains xs x → passes x ≡ true → (m : X) × IsNearest passes lower xs m
  nearest xs x c p = ⊎_elim (λ none. absurd (both_ways (passes x) (none x c) p)) (λ some. some) (found xs)
