-- The places of holes among contours: that of a hole is known, and that of an outline is not.
use Rattle.std.proofs.Common.{◌≡◌, ℕ, zero, suc, ◌+◌, Bool, true, false, List, [], ◌∷◌, length, Some, None}
use Rattle.std.proofs.Common.{refl, ap, ◌∙◌, arith}
use Rattle.std.specs.Prelude.{slice_index_or}
use Rattle.std.specs.List.{slice_get}
use Rattle.std.proofs.lemmas.Option.{none-some}
use Rattle.overlay_plane.specs.Islands.{place_if, hole_places}
use Rattle.overlay_plane.specs.RoledContours.{Contour, is_outline}
use Rattle.std.proofs.lemmas.Option.{same_Some}

-- there are as many places as contours
pub places_counted : (n : ℕ) (cs : List Contour) → length (hole_places n cs) ≡ length cs
places_counted n [] = refl
places_counted n (c ∷ cs) = ap suc (places_counted (suc n) cs)

-- the number known of a contour is its place, if it is a hole
pub place_at : (n : ℕ) (cs : List Contour) (i : ℕ) (c : Contour) → slice_get cs i ≡ Some c →
    slice_index_or (hole_places n cs) i None ≡ place_if (is_outline c.role) (n + i)
place_at n [] i c at = absurd (none-some c at)
place_at n (d ∷ ds) zero c at = let here : n ≡ n + 0 = omega arith in
    ap (λ (k : Contour). place_if (is_outline k.role) n) (same_Some d c at) ∙ ap (place_if (is_outline c.role)) here
place_at n (d ∷ ds) (suc i) c at = let after : suc n + i ≡ n + suc i = omega arith in
    place_at (suc n) ds i c at ∙ ap (place_if (is_outline c.role)) after

-- a known place is that of a hole
pub hole_from : (t : Bool) (n k : ℕ) → place_if t n ≡ Some k → (t ≡ false) × (n ≡ k)
hole_from true n k e = absurd (none-some k e)
hole_from false n k e = (refl, same_Some n k e)
