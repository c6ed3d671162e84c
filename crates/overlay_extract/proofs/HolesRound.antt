-- With the places of holes as known numbers, the sweep finds the hole round each outline.
use Rattle.std.proofs.Common.{◌≡◌, ℕ, suc, ◌+◌, Bool, true, false, cond, List, [], ◌∷◌, length, Option, Some, None}
use Rattle.std.proofs.Common.{refl, ap, ◌∙◌, subst, arith}
use Rattle.std.specs.Prelude.{slice_index_or}
use Rattle.std.specs.List.{AllZip, slice_get}
use Rattle.overlay_plane.specs.Turn.{Hand, other_hand}
use Rattle.overlay_plane.specs.RoledContours.{Contour, is_outline}
use Rattle.overlay_plane.specs.BoundContours.{walks_in}
use Rattle.overlay_plane.specs.Islands.{place_if, hole_places, IsHoleRound, outlines_from, AreHolesRound}
use Rattle.overlay_plane.proofs.HolePlaces.{place_at}
use Rattle.overlay_plane.proofs.PlacesOfContours.{place_of_walk}
use Rattle.overlay_extract.specs.HolePlaces.{at_outlines}
use Rattle.overlay_extract.specs.Parents.{HasShapeNumber}

-- a fact of each outline and the entry at its place holds of the outlines' places and of the entries at outlines
each_outline : (P : ℕ → Option ℕ → Type 0) (n : ℕ) (cs : List Contour) (found : List (Option ℕ)) →
    length found ≡ length cs →
    ((i : ℕ) (c : Contour) → slice_get cs i ≡ Some c → is_outline c.role ≡ true → P (n + i)
    (slice_index_or found i None)) →
    AllZip P (outlines_from n cs) (at_outlines cs found)
each_outline P n [] [] counted h = tt
each_outline P n [] (f ∷ fs) counted h = absurd (omega (arith, counted))
each_outline P n (c ∷ cs) [] counted h = absurd (omega (arith, counted))
each_outline P n (c ∷ cs) (f ∷ fs) counted h = by (is_outline c.role) refl
    (each_outline P (suc n) cs fs (omega (arith, counted)) (λ i d at is.
    let after : n + suc i ≡ suc n + i = omega arith in
    subst (λ k. P k (slice_index_or fs i None)) after (h (suc i) d at is)))
  where
    here : is_outline c.role ≡ true → P n f
    here is = let first : n + 0 ≡ n = omega arith in subst (λ k. P k f) first (h 0 c refl is)

    by : (t : Bool) → is_outline c.role ≡ t → AllZip P (outlines_from (suc n) cs) (at_outlines cs fs) →
        AllZip P (cond t (n ∷ outlines_from (suc n) cs) (outlines_from (suc n) cs))
        (cond t (f ∷ at_outlines cs fs) (at_outlines cs fs))
    by true is rest = (here is, rest)
    by false is rest = rest

-- the holes round all outlines are found
pub holes_found : (filled : Hand) (cs : List Contour) (found : List (Option ℕ)) → length found ≡ length cs →
    ((n : ℕ) → HasShapeNumber (other_hand filled) (walks_in cs) (hole_places 0 cs) found n) →
    AreHolesRound filled cs (at_outlines cs found)
holes_found filled cs found counted numbers = each_outline (IsHoleRound filled cs) 0 cs found counted (λ i c at is.
    let first : i ≡ 0 + i = omega arith in
    subst (λ k. IsHoleRound filled cs k (slice_index_or found i None)) first
    (numbers i c.steps (place_of_walk cs i c at) (place_at 0 cs i c at ∙ ap (λ t. place_if t (0 + i)) is)))
