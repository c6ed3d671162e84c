-- A list made of the parts of the entries that pass one of two tests is a permutation of the joined lists for each
-- test.
use Rattle.std.proofs.Common.{◌≡◌, ◌⊎◌, inl, inr, Bool, true, false, cond, List, [], ◌∷◌, ◌++◌, Contains, refl, sym, ap}
use Rattle.std.proofs.Common.{◌∙◌, subst, append_assoc}
use Rattle.std.specs.List.{filter, flat_map}
use Rattle.std.specs.List.Sorted.{IsPermutation}
use Rattle.std.proofs.lemmas.Bool.{false≢true}
use Rattle.std.proofs.lemmas.List.Sorted.{IsPermutation-refl, IsPermutation-trans, IsPermutation-append_left}
use Rattle.std.proofs.lemmas.List.Sorted.{IsPermutation-append_right, IsPermutation-append_comm}
use Rattle.overlay_plane.proofs.Totals.{Contains-head, Contains-later}

-- a list moved past another list
pub IsPermutation-past : {X : Type 0} (xs ys zs : List X) → IsPermutation (xs ++ (ys ++ zs)) (ys ++ (xs ++ zs))
IsPermutation-past xs ys zs = subst (λ vs. IsPermutation vs (ys ++ (xs ++ zs))) (append_assoc xs ys zs)
    (subst (λ vs. IsPermutation ((xs ++ ys) ++ zs) vs) (append_assoc ys xs zs)
    (IsPermutation-append_left zs (xs ++ ys) (ys ++ xs) (IsPermutation-append_comm xs ys)))

-- the entry that passes the first test passes the third alone. Another entry passes the second exactly if it passes the
-- first
abbrev pub IsSplit : Bool → Bool → Bool → Type 0
IsSplit all some others = ((some ≡ true) × (others ≡ false) × (all ≡ true)) ⊎ ((some ≡ false) × (others ≡ all))

-- where the entries that pass a test are split into those that pass one of two others
pub flat_map-split : {X Y : Type 0} (f : X → List Y) (all some others : X → Bool) (xs : List X) →
    ((x : X) → Contains xs x → IsSplit (all x) (some x) (others x)) →
    IsPermutation (flat_map f (filter all xs)) (flat_map f (filter some xs) ++ flat_map f (filter others xs))
flat_map-split f all some others [] h = IsPermutation-refl []
flat_map-split {X} {Y} f all some others (x ∷ xs) h = by (all x) (some x) (others x) (h x (Contains-head x xs))
    (flat_map-split f all some others xs (λ y c. h y (Contains-later x xs y c)))
  where
    -- the results of the three tests for the rest
    rest : List Y
    rest = flat_map f (filter all xs)

    first : List Y
    first = flat_map f (filter some xs)

    second : List Y
    second = flat_map f (filter others xs)

    by : (a b c : Bool) → IsSplit a b c → IsPermutation rest (first ++ second) →
        IsPermutation (flat_map f (cond a (x ∷ filter all xs) (filter all xs)))
        (flat_map f (cond b (x ∷ filter some xs) (filter some xs)) ++ flat_map f
        (cond c (x ∷ filter others xs) (filter others xs)))
    by true true false (inl e) moved = subst (λ vs. IsPermutation (f x ++ rest) vs)
        (sym (append_assoc (f x) first second))
        (IsPermutation-append_right (f x) rest (first ++ second) moved)
    by false b c (inl e) moved = absurd (false≢true e.2)
    by true false c (inl e) moved = absurd (false≢true e.0)
    by true true true (inl e) moved = absurd (false≢true (sym e.1))
    by true false true (inr e) moved = IsPermutation-trans (f x ++ rest) (f x ++ (first ++ second))
        (first ++ (f x ++ second))
        (IsPermutation-append_right (f x) rest (first ++ second) moved) (IsPermutation-past (f x) first second)
    by false false false (inr e) moved = moved
    by a true c (inr e) moved = absurd (false≢true (sym e.0))
    by true false false (inr e) moved = absurd (false≢true e.1)
    by false false true (inr e) moved = absurd (false≢true (sym e.1))

-- tests that agree on the entries keep the same ones
pub filter-same : {X : Type 0} (p q : X → Bool) (xs : List X) → ((x : X) → Contains xs x → p x ≡ q x) →
    filter p xs ≡ filter q xs
filter-same p q [] h = refl
filter-same {X} p q (x ∷ xs) h = ap (λ t. cond t (x ∷ filter p xs) (filter p xs)) (h x (Contains-head x xs))
    ∙ ap (λ ys. cond (q x) (x ∷ ys) ys) (filter-same p q xs (λ y c. h y (Contains-later x xs y c)))

-- a test that each entry passes keeps all
pub filter-all : {X : Type 0} (xs : List X) → filter (λ x. true) xs ≡ xs
filter-all [] = refl
filter-all (x ∷ xs) = ap (λ ys. x ∷ ys) (filter-all xs)

-- a test that none passes keeps none
pub filter-none : {X : Type 0} (xs : List X) → filter (λ x. false) xs ≡ []
filter-none [] = refl
filter-none (x ∷ xs) = filter-none xs
