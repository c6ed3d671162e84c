-- A mapped list in a loop over the original list: its front, the element at a place, the rest, and the elements that
-- pass a test.
use Rattle.std.proofs.Common.{◌≡◌, Bool, true, false, cond, ℕ, ◌+◌, ◌-◌, ◌<◌, ◌≤◌, List, [], ◌∷◌, ◌++◌, map, All}
use Rattle.std.proofs.Common.{length, reverse, take, drop, slice_range, get_or, refl, sym, ◌∙◌, ap, subst, arith}
use Rattle.std.specs.List.{AllPairs, AllZip, Contains, filter}
use Rattle.std.proofs.lemmas.List.{map_more, get_or-map, length-map, length-drop, take_all, take-map, drop-map}
use Rattle.std.proofs.lemmas.List.{drop_more, map-append, reverse-append}
use Rattle.std.proofs.lemmas.List.Elements.{All-push, All-take, All-drop}

-- the mapped list, with one more element
pub mapped_more : {X Y : Type 0} (f : X → Y) (xs : List X) (i : ℕ) (x : X) → i < length xs → x ≡ get_or xs i x →
    map f (take (i + 1) xs) ≡ map f (take i xs) ++ f x ∷ []
mapped_more f xs i x lt is = map_more f xs i x lt ∙ ap (λ y. map f (take i xs) ++ f y ∷ []) (sym is)

-- a fact of the first holds of one more
pub All-mapped_more : {X Y : Type 0} (P : Y → Type 0) (f : X → Y) (xs : List X) (i : ℕ) (x : X) → i < length xs →
    x ≡ get_or xs i x → All P (map f (take i xs)) → P (f x) → All P (map f (take (i + 1) xs))
All-mapped_more P f xs i x lt is before here = subst (All P) (sym (mapped_more f xs i x lt is))
    (All-push P (map f (take i xs)) (f x) before here)

-- past its end the front of a list is all of it
pub mapped_whole : {X Y : Type 0} (f : X → Y) (xs : List X) (i : ℕ) → length xs ≤ i → map f (take i xs) ≡ map f xs
mapped_whole f xs i le = ap (map f) (take_all i xs le)

-- a fact of all holds of the first
pub All-mapped_first : {X Y : Type 0} (P : Y → Type 0) (f : X → Y) (xs : List X) (i : ℕ) → All P (map f xs) →
    All P (map f (take i xs))
All-mapped_first P f xs i all = subst (All P) (take-map f i xs) (All-take P i (map f xs) all)

-- the element of the mapped list at a place is the mapped element read there
pub read_mapped : {X Y : Type 0} (f : X → Y) (xs : List X) (i : ℕ) (x : X) (d : Y) → i < length xs → x ≡ get_or xs i x →
    get_or (map f xs) i d ≡ f x
read_mapped f xs i x d lt is = get_or-map f xs i x d lt ∙ ap f (sym is)

-- the mapped list contains it
pub Contains-mapped : {X Y : Type 0} (f : X → Y) (xs : List X) (i : ℕ) (x : X) → i < length xs → x ≡ get_or xs i x →
    Contains (map f xs) (f x)
Contains-mapped f xs i x lt is = (i, rw length-map lt, read_mapped f xs i x (f x) lt is)

-- a fact of all elements holds of it
pub All-mapped_at : {X Y : Type 0} (P : Y → Type 0) (f : X → Y) (xs : List X) (i : ℕ) (x : X) → i < length xs →
    x ≡ get_or xs i x → All P (map f xs) → P (f x)
All-mapped_at P f xs i x lt is all = subst P (read_mapped f xs i x (f x) lt is) (all i (f x) (rw length-map lt))

-- the rest of the mapped list begins with it
pub mapped_rest : {X Y : Type 0} (f : X → Y) (xs : List X) (i : ℕ) (x : X) → i < length xs → x ≡ get_or xs i x →
    map f (drop i xs) ≡ f x ∷ map f (drop (i + 1) xs)
mapped_rest f xs i x lt is = ap (map f) (drop_more xs i x lt) ∙ ap (λ y. f y ∷ map f (drop (i + 1) xs)) (sym is)

-- a part of the mapped list
pub mapped_range : {X Y : Type 0} (f : X → Y) (xs : List X) (i j : ℕ) → map f (slice_range xs i j) ≡ slice_range
    (map f xs) i j
mapped_range f xs i j = sym (take-map f (j - i) (drop i xs)) ∙ ap (take (j - i)) (sym (drop-map f i xs))

-- a fact of all holds of a part
pub All-mapped_range : {X Y : Type 0} (P : Y → Type 0) (f : X → Y) (xs : List X) (i j : ℕ) → All P (map f xs) →
    All P (map f (slice_range xs i j))
All-mapped_range P f xs i j all = subst (All P) (sym (mapped_range f xs i j))
    (All-take P (j - i) (drop i (map f xs)) (All-drop P i (map f xs) all))

-- a fact of any two items holds of any two mapped items
pub AllPairs-map : {X Y : Type 0} (R : Y → Y → Type 0) (f : X → Y) (xs : List X) → AllPairs (λ x y. R (f x) (f y)) xs →
    AllPairs R (map f xs)
AllPairs-map R f [] h = λ i j d l m. absurd (omega arith)
AllPairs-map R f (x ∷ xs) h = λ i j d l m.
    let short : j < length (x ∷ xs) = omega (arith, length-map (x ∷ xs) f) in
    rw (get_or-map f (x ∷ xs) i x d (omega arith), get_or-map f (x ∷ xs) j x d short) (h i j x l short)

-- to leave out items before they are mapped or after is one
pub map-filter : {X Y : Type 0} (f : X → Y) (p : Y → Bool) (xs : List X) →
    map f (filter (λ x. p (f x)) xs) ≡ filter p (map f xs)
map-filter f p [] = refl
map-filter f p (x ∷ xs) =
    let rest : map f (filter (λ x. p (f x)) xs) ≡ filter p (map f xs) = map-filter f p xs in
    elim (p (f x)) as (λ b. map f (cond b (x ∷ filter (λ x. p (f x)) xs) (filter (λ x. p (f x)) xs)) ≡ cond b
    (f x ∷ filter p (map f xs)) (filter p (map f xs))) [
      | true ↦ ap (λ ys. f x ∷ ys) rest
      | false ↦ rest
    ]

-- the part of a list from a place to its end, mapped, is the rest from there
pub mapped_from : {X Y : Type 0} (f : X → Y) (xs : List X) (i : ℕ) →
    map f (slice_range xs i (length xs)) ≡ map f (drop i xs)
mapped_from f xs i =
    let short : length (drop i xs) ≤ length xs - i = omega (arith, length-drop i xs) in
    ap (map f) (take_all (length xs - i) (drop i xs) short)

-- a list in the opposite order is mapped to that of the mapped one
pub map-reverse : {X Y : Type 0} (f : X → Y) (xs : List X) → map f (reverse xs) ≡ reverse (map f xs)
map-reverse f [] = refl
map-reverse f (x ∷ xs) = ap (map f) (reverse-append (x ∷ []) xs) ∙ map-append f (reverse xs) (x ∷ [])
    ∙ ap (λ ys. ys ++ f x ∷ []) (map-reverse f xs) ∙ sym (reverse-append (f x ∷ []) (map f xs))

-- a fact of any two mapped items holds of the items
pub AllPairs-unmap : {X Y : Type 0} (R : Y → Y → Type 0) (f : X → Y) (xs : List X) → AllPairs R (map f xs) →
    AllPairs (λ x y. R (f x) (f y)) xs
AllPairs-unmap R f xs h i j d l m =
    subst (λ y. R y (f (get_or xs j d))) (get_or-map f xs i d (f d) (omega (arith, l, m)))
    (subst (λ y. R (get_or (map f xs) i (f d)) y) (get_or-map f xs j d (f d) m) (h i j (f d) l (rw length-map m)))

-- one more item of each of two lists, where theirs are related one by one
pub AllZip-more : {X Y : Type 0} (R : X → Y → Type 0) (xs : List X) (ys : List Y) (x : X) (y : Y) → AllZip R xs ys →
    R x y → AllZip R (xs ++ x ∷ []) (ys ++ y ∷ [])
AllZip-more R [] [] x y each more = (more, tt)
AllZip-more R [] (w ∷ ws) x y each more = absurd each
AllZip-more R (v ∷ vs) [] x y each more = absurd each
AllZip-more R (v ∷ vs) (w ∷ ws) x y each more = (each.0, AllZip-more R vs ws x y each.1 more)
