-- The entries of lists: all of them or some of them, and those of filtered and mapped lists, and of lists made of
-- parts.
use Rattle.std.proofs.Common.{◌≡◌, ◌⊎◌, inl, inr, Bool, true, false, cond, List, [], ◌∷◌, ◌++◌, map, refl, sym, ap₂}
use Rattle.std.proofs.Common.{subst}
use Rattle.std.specs.List.{All, Any, Contains, filter, flat_map}
use Rattle.std.proofs.lemmas.Bool.{both_ways}
use Rattle.std.proofs.lemmas.List.Elements.{All-nil, All-cons, All-contains, All-weaker, All-filter}
use Rattle.std.proofs.lemmas.List.Elements.{All-contains_itself, filter_passes}
use Rattle.std.proofs.lemmas.List.Elements.{Contains-append_left, Contains-append_right, Contains-append_cases}
use Rattle.overlay_geom.proofs.Entries.{Contains-head, Contains-later, Contains-cases}
use Rattle.overlay_geom.proofs.Mapped.{Contains-mapped}

-- ---- all and some

-- a fact of each entry holds of all
pub all_of_entries : {X : Type 0} (P : X → Type 0) (xs : List X) → ((x : X) → Contains xs x → P x) → All P xs
all_of_entries P xs h = All-weaker (Contains xs) P h xs (All-contains_itself xs)

-- a fact of all entries of two lists joined holds of those of the first
pub All-first : {X : Type 0} (P : X → Type 0) (xs ys : List X) → All P (xs ++ ys) → All P xs
All-first P xs ys h = all_of_entries P xs (λ x c. All-contains P (xs ++ ys) x h (Contains-append_left xs ys x c))

-- and of those of the second
pub All-rest : {X : Type 0} (P : X → Type 0) (xs ys : List X) → All P (xs ++ ys) → All P ys
All-rest P xs ys h = all_of_entries P ys (λ x c. All-contains P (xs ++ ys) x h (Contains-append_right xs ys x c))

-- a fact of an entry holds of some
pub any_of_entry : {X : Type 0} (P : X → Type 0) (xs : List X) (x : X) → Contains xs x → P x → Any P xs
any_of_entry P xs x at holds = (at.0, x, at.1, at.2, holds)

-- where something holds of some entry, it holds of one that is in the list
pub Contains-from_any : {X : Type 0} (P : X → Type 0) (xs : List X) → Any P xs → (x : X) × Contains xs x × P x
Contains-from_any P xs some = (some.1, (some.0, some.2, some.3), some.4)

-- if one of two facts holds of each entry, the first holds of all entries or the second of some
pub all_or_any : {X : Type 0} (P Q : X → Type 0) → ((x : X) → P x ⊎ Q x) → (xs : List X) → All P xs ⊎ Any Q xs
all_or_any P Q each [] = inl (All-nil P)
all_or_any {X} P Q each (x ∷ xs) = by (each x) (all_or_any P Q each xs)
  where
    by : P x ⊎ Q x → All P xs ⊎ Any Q xs → All P (x ∷ xs) ⊎ Any Q (x ∷ xs)
    by (inl here) (inl rest) = inl (All-cons P x xs here rest)
    by (inl here) (inr some) = let found = Contains-from_any Q xs some in
        inr (any_of_entry Q (x ∷ xs) found.0 (Contains-later x xs found.0 found.1) found.2)
    by (inr here) rest = inr (any_of_entry Q (x ∷ xs) x (Contains-head x xs) here)

-- ---- entries that pass a test

-- an entry that passes is kept
pub Contains-filter : {X : Type 0} (p : X → Bool) (xs : List X) (x : X) → Contains xs x → p x ≡ true →
    Contains (filter p xs) x
Contains-filter p [] x c e = elim c.1 [ ]
Contains-filter {X} p (y ∷ ys) x c e = by (p y) refl (Contains-cases y ys x c) (λ later. Contains-filter p ys x later e)
  where
    by : (b : Bool) → p y ≡ b → (y ≡ x) ⊎ Contains ys x → (Contains ys x → Contains (filter p ys) x) →
        Contains (cond b (y ∷ filter p ys) (filter p ys)) x
    by true is (inl same) rest = subst (λ w. Contains (y ∷ filter p ys) w) same (Contains-head y (filter p ys))
    by true is (inr later) rest = Contains-later y (filter p ys) x (rest later)
    by false is (inl same) rest = absurd (both_ways (p x) (subst (λ w. p w ≡ false) same is) e)
    by false is (inr later) rest = rest later

-- an entry kept is an entry that passes
pub Contains-from_filter : {X : Type 0} (p : X → Bool) (xs : List X) (x : X) → Contains (filter p xs) x →
    Contains xs x × (p x ≡ true)
Contains-from_filter p xs x c = (
  All-contains (Contains xs) (filter p xs) x (All-filter p (Contains xs) xs (All-contains_itself xs)) c,
  All-contains (λ y. p y ≡ true) (filter p xs) x (filter_passes p xs) c,
)

-- ---- mapped lists

-- a mapped entry is an entry of the mapped list
pub Contains-map : {X Y : Type 0} (f : X → Y) (xs : List X) (x : X) → Contains xs x → Contains (map f xs) (f x)
Contains-map f xs x c = Contains-mapped f xs c.0 x c.1 (sym c.2)

-- an entry of the mapped list is some mapped entry
pub Contains-from_map : {X Y : Type 0} (f : X → Y) (xs : List X) (y : Y) → Contains (map f xs) y →
    (x : X) × Contains xs x × (f x ≡ y)
Contains-from_map f [] y c = elim c.1 [ ]
Contains-from_map f (x ∷ xs) y c =
    elim (Contains-cases (f x) (map f xs) y c) [
      | inl is ↦ (x, Contains-head x xs, is)
      | inr later ↦ let found = Contains-from_map f xs y later in
          (found.0, Contains-later x xs found.0 found.1, found.2)
    ]

-- ---- lists made of one part for each entry

-- an entry of a part is an entry of the list made of the parts
pub Contains-flat_map : {X Y : Type 0} (f : X → List Y) (xs : List X) (x : X) (v : Y) → Contains xs x →
    Contains (f x) v → Contains (flat_map f xs) v
Contains-flat_map f [] x v c h = elim c.1 [ ]
Contains-flat_map f (y ∷ ys) x v c h =
    elim (Contains-cases y ys x c) [
      | inl is ↦ Contains-append_left (f y) (flat_map f ys) v (subst (λ u. Contains (f u) v) (sym is) h)
      | inr later ↦ Contains-append_right (f y) (flat_map f ys) v (Contains-flat_map f ys x v later h)
    ]

-- an entry of that list is one of some entry's part
pub Contains-from_flat_map : {X Y : Type 0} (f : X → List Y) (xs : List X) (v : Y) → Contains (flat_map f xs) v →
    (x : X) × Contains xs x × Contains (f x) v
Contains-from_flat_map f [] v c = elim c.1 [ ]
Contains-from_flat_map f (x ∷ xs) v c =
    elim (Contains-append_cases (f x) (flat_map f xs) v c) [
      | inl here ↦ (x, Contains-head x xs, here)
      | inr later ↦ let found = Contains-from_flat_map f xs v later in
          (found.0, Contains-later x xs found.0 found.1, found.2)
    ]

-- lists made of the same parts are equal
pub flat_map-same : {X Y : Type 0} (f g : X → List Y) (xs : List X) → ((x : X) → Contains xs x → f x ≡ g x) →
    flat_map f xs ≡ flat_map g xs
flat_map-same f g [] h = refl
flat_map-same f g (x ∷ xs) h = ap₂ (λ a b. a ++ b) (h x (Contains-head x xs))
    (flat_map-same f g xs (λ y c. h y (Contains-later x xs y c)))
