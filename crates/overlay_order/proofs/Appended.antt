-- Lists to which something was appended, as a program that appends it finds them.
use Rattle.std.proofs.Common.{◌≡◌, ℕ, ◌+◌, ◌<◌, List, [], ◌∷◌, ◌++◌, map, length, take, get_or, sym, ◌∙◌, ap}
use Rattle.std.proofs.Common.{append_assoc}
use Rattle.std.specs.List.{flat_map}
use Rattle.std.proofs.lemmas.List.{map-append}
use Rattle.overlay_geom.proofs.Mapped.{mapped_more}

-- after a push, the mapped list has the mapped item at its end
pub mapped_pushed : {X Y : Type 0} (f : X → Y) (old new : List X) (x : X) (y : Y) → new ≡ old ++ x ∷ [] → f x ≡ y →
    map f new ≡ map f old ++ y ∷ []
mapped_pushed f old new x y is maps = ap (map f) is ∙ map-append f old (x ∷ []) ∙ ap (λ z. map f old ++ z ∷ []) maps

-- the entries of the next item move from those to come to those done
pub next_appended : {X Y : Type 0} (f : X → List Y) (old new : List Y) (x : X) (xs rest : List X) (whole : List Y) →
    rest ≡ x ∷ xs
    → old ++ flat_map f rest ≡ whole → new ≡ old ++ f x → new ++ flat_map f xs ≡ whole
next_appended f old new x xs rest whole begins before appended =
    ap (λ ys. ys ++ flat_map f xs) appended
    ∙ append_assoc old (f x) (flat_map f xs)
    ∙ sym (ap (λ zs. old ++ flat_map f zs) begins)
    ∙ before

-- after a further push, a list is still the mapped list of the items read so far
pub next_mapped : {W X Y Z : Type 0} (f : X → Z) (k : Y → Z) (plain : W → Y) (old new : List X) (x : X) (ws : List W)
    (i : ℕ) (w : W)
    → i < length ws → w ≡ get_or ws i w → new ≡ old ++ x ∷ [] → f x ≡ k (plain w)
    → map f old ≡ map k (map plain (take i ws)) → map f new ≡ map k (map plain (take (i + 1) ws))
next_mapped f k plain old new x ws i w within at is maps before =
    mapped_pushed f old new x (k (plain w)) is maps
    ∙ ap (λ zs. zs ++ k (plain w) ∷ []) before
    ∙ sym (ap (map k) (mapped_more plain ws i w within at) ∙ map-append k (map plain (take i ws)) (plain w ∷ []))

-- a list of mapped items stays the mapped list
pub next_listed : {W Y Z : Type 0} (k : Y → Z) (plain : W → Y) (old new : List Z) (z : Z) (ws : List W) (i : ℕ) (w : W)
    → i < length ws → w ≡ get_or ws i w → new ≡ old ++ z ∷ [] → z ≡ k (plain w)
    → old ≡ map k (map plain (take i ws)) → new ≡ map k (map plain (take (i + 1) ws))
next_listed k plain old new z ws i w within at is maps before =
    is
    ∙ ap (λ y. old ++ y ∷ []) maps
    ∙ ap (λ zs. zs ++ k (plain w) ∷ []) before
    ∙ sym (ap (map k) (mapped_more plain ws i w within at) ∙ map-append k (map plain (take i ws)) (plain w ∷ []))

-- a list behind earlier items stays the mapped list
pub next_mapped_behind : {W X Y Z : Type 0} (before : List Z) (f : X → Z) (k : Y → Z) (plain : W → Y) (old new : List X)
    (x : X) (ws : List W) (i : ℕ) (w : W)
    → i < length ws → w ≡ get_or ws i w → new ≡ old ++ x ∷ [] → f x ≡ k (plain w)
    → map f old ≡ before ++ map k (map plain (take i ws))
    → map f new ≡ before ++ map k (map plain (take (i + 1) ws))
next_mapped_behind before f k plain old new x ws i w within at is maps so_far =
    mapped_pushed f old new x (k (plain w)) is maps
    ∙ ap (λ zs. zs ++ k (plain w) ∷ []) so_far
    ∙ append_assoc before (map k (map plain (take i ws))) (k (plain w) ∷ [])
    ∙ ap (λ zs. before ++ zs)
    (sym (ap (map k) (mapped_more plain ws i w within at) ∙ map-append k (map plain (take i ws)) (plain w ∷ [])))
