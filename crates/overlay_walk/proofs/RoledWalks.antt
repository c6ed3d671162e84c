-- Walks that become contours, one after another.
use Rattle.std.proofs.Common.{◌≡◌, ℕ, suc, ◌+◌, false, cond, List, ◌∷◌, ap, ◌∙◌, arith}
use Rattle.overlay_geom.specs.Plane.{Step}
use Rattle.overlay_plane.specs.Binding.{is_hole}
use Rattle.overlay_plane.specs.RoledContours.{contours_from, hole_to_bind, outline_of}
use Rattle.overlay_plane.specs.Turn.{Hand}

-- the first is an outline
pub outline_first : (filled : Hand) (n : ℕ) (w : List Step) (ws : List (List Step)) → is_hole filled w ≡ false →
    contours_from filled n (w ∷ ws) ≡ outline_of n w ∷ contours_from filled (n + 1) ws
outline_first filled n w ws is =
    let next : suc n ≡ n + 1 = omega arith in
    ap (λ t. cond t (hole_to_bind w ∷ contours_from filled n ws) (outline_of n w ∷ contours_from filled (suc n) ws)) is
    ∙ ap (λ k. outline_of n w ∷ contours_from filled k ws) next
