-- Walks that are cut without groups, as contours with roles; a minimum area of zero keeps them all.
use Rattle.std.proofs.Common.{◌≡◌, ℕ, suc, Bool, true, false, cond, ◌&&◌, nat_abs, List, [], ◌∷◌, length, refl, ap, ◌∙◌}
use Rattle.std.proofs.Common.{rules}
use Rattle.std.specs.Prelude.{nat_le, ◌/◌, ◌≤◌}
use Rattle.std.specs.Int.{Width, int_wrap}
use Rattle.std.specs.List.{filter, All}
use Rattle.std.proofs.lemmas.List.Elements.{All-head, All-tail}
use Rattle.overlay_geom.specs.Plane.{Step, points_of}
use Rattle.overlay_plane.specs.Binding.{is_hole}
use Rattle.overlay_plane.specs.Contours.{IsContour}
use Rattle.overlay_plane.specs.MinimumArea.{double_area, reaches}
use Rattle.overlay_plane.specs.RoledContours.{contours_from, hole_to_bind, outline_of}
use Rattle.overlay_plane.specs.BoundContours.{walks_in}
use Rattle.overlay_plane.specs.Turn.{Hand}

module _ (filled : Hand) where
  -- the walks of the contours are the walks
  pub walks_from : (n : ℕ) (walks : List (List Step)) → walks_in (contours_from filled n walks) ≡ walks
  walks_from n [] = refl
  walks_from n (w ∷ ws) = by (is_hole filled w) (λ k. walks_from k ws)
    where
      by : (t : Bool) → ((k : ℕ) → walks_in (contours_from filled k ws) ≡ ws) →
          walks_in (cond t (hole_to_bind w ∷ contours_from filled n ws)
          (outline_of n w ∷ contours_from filled (suc n) ws)) ≡ w ∷ ws
      by true rest = ap (λ vs. w ∷ vs) (rest n)
      by false rest = ap (λ vs. w ∷ vs) (rest (suc n))

-- a contour reaches the minimum area zero
pub reaches_zero : (width : Width) (walk : List Step) → IsContour walk → reaches width 0 walk ≡ true
reaches_zero width walk c = three (length walk) c.three
  where
    three : (n : ℕ) → 3 ≤ n → (nat_le 3 n && nat_le 0 (nat_abs (int_wrap width (double_area (points_of walk))) / 2))
        ≡ true
    three n most = search rules

-- with it all contours are kept
pub all_kept : (width : Width) (walks : List (List Step)) → All IsContour walks → filter (reaches width 0) walks ≡ walks
all_kept width [] contours = refl
all_kept width (w ∷ ws) contours =
    ap (λ t. cond t (w ∷ filter (reaches width 0) ws) (filter (reaches width 0) ws))
    (reaches_zero width w (All-head IsContour w ws contours))
    ∙ ap (λ vs. w ∷ vs) (all_kept width ws (All-tail IsContour w ws contours))
