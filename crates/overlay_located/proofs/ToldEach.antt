-- Answers written one by one.
use Rattle.std.proofs.Common.{◌≡◌, ◌≢◌, ⊎_elim, ℕ, ◌+◌, ◌<◌, List, length, get_or, set, sym, subst, arith}
use Rattle.std.proofs.Math.Nat.{eq-or-lt_of_le}
use Rattle.std.proofs.lemmas.List.{get_or-set_same, get_or-set_other}

-- one answer more
pub told_more : {X Y : Type 0} (R : X → Y → Type 0) (xs : List X) (ys : List Y) (i : ℕ) (x : X) (y : Y) →
    i < length ys → ((d : X) → get_or xs i d ≡ x) → R x y →
    ((k : ℕ) (d : X) (e : Y) → k < i → R (get_or xs k d) (get_or ys k e)) → (k : ℕ) (d : X) (e : Y) → k < i + 1 →
    R (get_or xs k d) (get_or (set ys i y) k e)
told_more {X = X} {Y = Y} R xs ys i x y lt is here before k d e less = ⊎_elim
    (λ (same : k ≡ i). subst (λ (j : ℕ). R (get_or xs j d) (get_or (set ys i y) j e)) (sym same)
    (subst (λ (w : X). R w (get_or (set ys i y) i e)) (sym (is d))
    (subst (λ (z : Y). R x z) (sym (get_or-set_same ys i y e lt)) here)))
    (λ (earlier : k < i).
    let other : k ≢ i = omega (arith, earlier) in
    subst (λ (z : Y). R (get_or xs k d) z) (sym (get_or-set_other ys i k y e other)) (before k d e earlier))
    (eq-or-lt_of_le {n = k} {m = i} (omega (arith, less)))
