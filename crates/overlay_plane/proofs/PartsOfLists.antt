-- Lists made of some of the entries of a list, in their order.
use Rattle.std.proofs.Common.{⊎_elim, Bool, true, false, cond, List, [], ◌∷◌, ◌++◌, Contains, filter, subst}
use Rattle.std.specs.List.{flat_map}
use Rattle.overlay_geom.proofs.Entries.{Contains-head, Contains-later}
use Rattle.overlay_plane.proofs.LaterEntries.{Contains-cases, Each}

-- the first list is made of entries of the second, in their order
pub data IsPart {X : Type 0} : List X → List X → Type 0 where
  nothing : IsPart [] []
  taken : {x : X} {xs ys : List X} → IsPart xs ys → IsPart (x ∷ xs) (x ∷ ys)
  left_out : {y : X} {xs ys : List X} → IsPart xs ys → IsPart xs (y ∷ ys)

-- a list is made of all its entries
pub part-all : {X : Type 0} (xs : List X) → IsPart xs xs
part-all [] = nothing
part-all (x ∷ xs) = taken (part-all xs)

-- an empty list is such a list
pub part-none : {X : Type 0} (xs : List X) → IsPart [] xs
part-none [] = nothing
part-none (x ∷ xs) = left_out (part-none xs)

-- the entries that pass a test
pub part-filter : {X : Type 0} (p : X → Bool) (xs : List X) → IsPart (filter p xs) xs
part-filter p [] = nothing
part-filter {X} p (x ∷ xs) = by (p x) (part-filter p xs)
  where
    by : (t : Bool) → IsPart (filter p xs) xs → IsPart (cond t (x ∷ filter p xs) (filter p xs)) (x ∷ xs)
    by true rest = taken rest
    by false rest = left_out rest

-- joined lists consist of the entries of their parts
pub part-append : {X : Type 0} (ps qs us vs : List X) → IsPart ps qs → IsPart us vs → IsPart (ps ++ us) (qs ++ vs)
part-append ps qs us vs nothing second = second
part-append ps qs us vs (taken {x} {xs} {ys} first) second = taken (part-append xs ys us vs first second)
part-append ps qs us vs (left_out {y} {xs} {ys} first) second = left_out (part-append xs ys us vs first second)

-- lists made of a part for each entry do so too
pub part-flat_map : {X Y : Type 0} (f : X → List Y) (ps qs : List X) → IsPart ps qs →
    IsPart (flat_map f ps) (flat_map f qs)
part-flat_map f ps qs nothing = nothing
part-flat_map f ps qs (taken {x} {xs} {ys} rest) = part-append (f x) (f x) (flat_map f xs) (flat_map f ys)
    (part-all (f x)) (part-flat_map f xs ys rest)
part-flat_map f ps qs (left_out {y} {xs} {ys} rest) = part-append [] (f y) (flat_map f xs) (flat_map f ys)
    (part-none (f y)) (part-flat_map f xs ys rest)

-- an entry of it is one of the list
pub Contains-part : {X : Type 0} (ps qs : List X) → IsPart ps qs → (z : X) → Contains ps z → Contains qs z
Contains-part ps qs nothing z c = c
Contains-part ps qs (taken {x} {xs} {ys} rest) z c = ⊎_elim
    (λ is. subst (Contains (x ∷ ys)) is (Contains-head x ys))
    (λ later. Contains-later x ys z (Contains-part xs ys rest z later))
    (Contains-cases x xs z c)
Contains-part ps qs (left_out {y} {xs} {ys} rest) z c = Contains-later y ys z (Contains-part xs ys rest z c)

-- where each entry is in relation to each later one, so it is in it
pub Each-part : {X : Type 0} (R : X → X → Type 0) (ps qs : List X) → IsPart ps qs → Each R qs → Each R ps
Each-part R ps qs nothing h = h
Each-part R ps qs (taken {x} {xs} {ys} rest) h = (
  (λ z c. h.0 z (Contains-part xs ys rest z c)),
  Each-part R xs ys rest h.1,
)
Each-part R ps qs (left_out {y} {xs} {ys} rest) h = Each-part R xs ys rest h.1
