-- Contours that visit no point twice visit none twice when they are thinned.
use Rattle.std.proofs.Common.{◌≡◌, Bool, true, false, List, [], ◌∷◌, All, subst, sym}
use Rattle.std.specs.List.{AllZip}
use Rattle.std.proofs.lemmas.List.Elements.{All-nil, All-cons, All-head, All-tail}
use Rattle.std.proofs.lemmas.List.Quantifiers.{all_pairs_remove}
use Rattle.overlay_geom.specs.Plane.{Point, point_eq}
use Rattle.overlay_geom.specs.Thinned.{IsThinned, IsKeptOrThinned}
use Rattle.overlay_geom.specs.Thinned.IsThinned.{thin, drop_one}
use Rattle.overlay_plane.specs.Groups.{HasEachPointOnce}
use Rattle.overlay_plane.specs.ShapeWindings.{AreKeptOrThinned}

thinned_once : (ps qs : List Point) → IsThinned ps qs → HasEachPointOnce ps → HasEachPointOnce qs
thinned_once ps _ (thin none) once = once
thinned_once ps qs (drop_one k inside straight rest) once =
    thinned_once _ qs rest (all_pairs_remove (λ p q. point_eq p q ≡ false) ps k inside once)

taken_once : (keep : Bool) (ps qs : List Point) → IsKeptOrThinned keep ps qs → HasEachPointOnce ps →
    HasEachPointOnce qs
taken_once true ps qs same once = subst HasEachPointOnce (sym same) once
taken_once false ps qs thinned once = thinned_once ps qs thinned once

-- a fact of each item of one list holds of the items of the other, if items at equal places are related
each_taken : {X Y : Type 0} (R : X → Y → Type 0) (P : X → Type 0) (Q : Y → Type 0) →
    ((x : X) (y : Y) → R x y → P x → Q y) → (xs : List X) (ys : List Y) → AllZip R xs ys → All P xs → All Q ys
each_taken R P Q h [] [] each all = All-nil Q
each_taken R P Q h [] (y ∷ ys) each all = absurd each
each_taken R P Q h (x ∷ xs) [] each all = absurd each
each_taken R P Q h (x ∷ xs) (y ∷ ys) each all = All-cons Q y ys (h x y each.0 (All-head P x xs all))
    (each_taken R P Q h xs ys each.1 (All-tail P x xs all))

-- this holds of all contours of shapes
pub shown_once : (keep : Bool) (given taken : List (List (List Point))) → AreKeptOrThinned keep given taken →
    All (All HasEachPointOnce) given → All (All HasEachPointOnce) taken
shown_once keep given taken = each_taken (AllZip (IsKeptOrThinned keep)) (All HasEachPointOnce) (All HasEachPointOnce)
    (each_taken (IsKeptOrThinned keep) HasEachPointOnce HasEachPointOnce (taken_once keep)) given taken
