-- Two lists with equal steps, each once, are permutations of each other.
use Rattle.std.proofs.Common.{◌≡◌, ◌⊎◌, inl, inr, ⊎_elim, false, List, [], ◌∷◌, ◌++◌, Contains, refl, sym, ap, subst}
use Rattle.std.proofs.lemmas.Bool.{both_ways}
use Rattle.std.specs.List.Sorted.{IsPermutation}
use Rattle.std.proofs.lemmas.List.Elements.{Contains-append_left, Contains-append_right, Contains-append_cases}
use Rattle.std.proofs.lemmas.List.Sorted.{IsPermutation-refl, IsPermutation-cons, IsPermutation-middle}
use Rattle.std.proofs.lemmas.List.Sorted.{IsPermutation-sym, IsPermutation-trans}
use Rattle.overlay_geom.specs.Plane.{Step, step_eq}
use Rattle.overlay_plane.proofs.AtNodes.{equal_steps}
use Rattle.overlay_plane.proofs.LaterEntries.{Contains-cases, Each}
use Rattle.overlay_plane.proofs.Totals.{Contains-head, Contains-later}

-- the two steps are not one
abbrev pub Differ : Step → Step → Type 0
Differ s t = step_eq s t ≡ false

-- a list round one of its entries
pub parts_round : {X : Type 0} (xs : List X) (x : X) → Contains xs x →
    (before : List X) × (after : List X) × (xs ≡ before ++ x ∷ after)
parts_round [] x c = elim c.1 [ ]
parts_round {X} (y ∷ ys) x c = ⊎_elim
    (λ is. ([], ys, ap (λ z. z ∷ ys) is))
    (λ later. let rest = parts_round ys x later in (y ∷ rest.0, rest.1, ap (λ zs. y ∷ zs) rest.2))
    (Contains-cases y ys x c)

-- an entry of two lists is one of a list with both and more between
pub beside_one : {X : Type 0} (xs : List X) (x : X) (ys : List X) (z : X) → Contains (xs ++ ys) z →
    Contains (xs ++ x ∷ ys) z
beside_one xs x ys z c = ⊎_elim
    (λ here. Contains-append_left xs (x ∷ ys) z here)
    (λ later. Contains-append_right xs (x ∷ ys) z (Contains-later x ys z later))
    (Contains-append_cases xs ys z c)

-- an entry of a list round x is x, or one of the others
pub one_or_beside : {X : Type 0} (xs : List X) (x : X) (ys : List X) (z : X) → Contains (xs ++ x ∷ ys) z →
    (x ≡ z) ⊎ Contains (xs ++ ys) z
one_or_beside xs x ys z c = ⊎_elim
    (λ here. inr (Contains-append_left xs ys z here))
    (λ there. ⊎_elim (λ is. inl is) (λ later. inr (Contains-append_right xs ys z later)) (Contains-cases x ys z there))
    (Contains-append_cases xs (x ∷ ys) z c)

-- where no step stands twice, a step does not stand beside itself
not_again : (xs : List Step) (x : Step) (ys : List Step) → Each Differ (xs ++ x ∷ ys) → ¬ (Contains (xs ++ ys) x)
not_again [] x ys h c = both_ways (step_eq x x) (h.0 x c) (equal_steps x x refl)
not_again (s ∷ xs) x ys h c = ⊎_elim
    (λ is. both_ways (step_eq s x) (h.0 x (Contains-append_right xs (x ∷ ys) x (Contains-head x ys)))
    (equal_steps s x is))
    (λ later. not_again xs x ys h.1 later)
    (Contains-cases s (xs ++ ys) x c)

-- where no step stands twice, none does in the list without one of its steps
Each-beside : (xs : List Step) (x : Step) (ys : List Step) → Each Differ (xs ++ x ∷ ys) → Each Differ (xs ++ ys)
Each-beside [] x ys h = h.1
Each-beside (s ∷ xs) x ys h = ((λ z c. h.0 z (beside_one xs x ys z c)), Each-beside xs x ys h.1)

-- lists with the same steps, each once, are in two orders
pub shuffled_from_same : (xs ys : List Step) → Each Differ xs → Each Differ ys →
    ((s : Step) → Contains xs s → Contains ys s) →
    ((s : Step) → Contains ys s → Contains xs s) →
    IsPermutation xs ys
shuffled_from_same [] [] h k to back = IsPermutation-refl []
shuffled_from_same [] (y ∷ ys) h k to back = elim (back y (Contains-head y ys)).1 [ ]
shuffled_from_same (x ∷ xs) ys h k to back =
    subst (λ zs. IsPermutation (x ∷ xs) zs) (sym whole)
    (IsPermutation-trans (x ∷ xs) (x ∷ before ++ after) (before ++ x ∷ after)
    (IsPermutation-cons x xs (before ++ after)
    (shuffled_from_same xs (before ++ after) h.1 (Each-beside before x after once) to_rest from_rest))
    (IsPermutation-sym (before ++ x ∷ after) (x ∷ before ++ after) (IsPermutation-middle before x after)))
  where
    parts : (before : List Step) × (after : List Step) × (ys ≡ before ++ x ∷ after)
    parts = parts_round ys x (to x (Contains-head x xs))

    before : List Step
    before = parts.0

    after : List Step
    after = parts.1

    whole : ys ≡ before ++ x ∷ after
    whole = parts.2

    once : Each Differ (before ++ x ∷ after)
    once = subst (λ zs. Each Differ zs) whole k

    to_rest : (s : Step) → Contains xs s → Contains (before ++ after) s
    to_rest s c = ⊎_elim
        (λ is. absurd (both_ways (step_eq x s) (h.0 s c) (equal_steps x s is)))
        (λ rest. rest)
        (one_or_beside before x after s (subst (λ zs. Contains zs s) whole (to s (Contains-later x xs s c))))

    from_rest : (s : Step) → Contains (before ++ after) s → Contains xs s
    from_rest s c = ⊎_elim
        (λ is. absurd (not_again before x after once (subst (λ z. Contains (before ++ after) z) (sym is) c)))
        (λ rest. rest)
        (Contains-cases x xs s (back s (subst (λ zs. Contains zs s) (sym whole) (beside_one before x after s c))))
