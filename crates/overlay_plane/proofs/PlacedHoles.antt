-- The shapes to which contours are bound: outlines, to which the holes of the outline's own group and the holes found
-- for the shape are added.
use Rattle.std.proofs.Common.{◌≡◌, ℕ, suc, ◌+◌, ◌<◌, cond, List, [], ◌∷◌, ◌++◌, map, length}
use Rattle.std.proofs.Common.{get_or, refl, sym, ap₂, subst, arith}
use Rattle.std.specs.List.{filter, flat_map}
use Rattle.overlay_geom.specs.Plane.{Step}
use Rattle.overlay_plane.specs.RoledContours.{Role, outline, own_hole, free_hole, is_outline}
use Rattle.overlay_plane.specs.BoundContours.{BoundContour, own_holes, found_holes, shape_begun_by, shapes_bound}
use Rattle.overlay_plane.specs.ContourNumbers.{IsNumber, after, AreNumbers}

-- the outlines of bound contours
abbrev pub outline_walks : List BoundContour → List (List Step)
outline_walks bs = map (λ (b : BoundContour). b.contour.steps)
    (filter (λ (b : BoundContour). is_outline b.contour.role) bs)

-- shapes that outlines begin, from the n-th on, each with its holes
abbrev pub begun : (ℕ → List (List Step)) → ℕ → List (List Step) → List (List (List Step))
begun holes n [] = []
begun holes n (o ∷ os) = (o ∷ holes n) ∷ begun holes (suc n) os

-- lists of an outline with its holes each are these shapes
pub each_begun : (holes : ℕ → List (List Step)) (n : ℕ) (os : List (List Step)) (shapes : List (List (List Step))) →
    length shapes ≡ length os →
    ((k : ℕ) → k < length os → get_or shapes k [] ≡ get_or os k [] ∷ holes (n + k)) → shapes ≡ begun holes n os
each_begun holes n [] [] counted each = refl
each_begun holes n [] (s ∷ ss) counted each = absurd (omega (arith, counted))
each_begun holes n (o ∷ os) [] counted each = absurd (omega (arith, counted))
each_begun holes n (o ∷ os) (s ∷ ss) counted each =
    let here : n + 0 ≡ n = omega arith in
    ap₂ (λ t ts. t ∷ ts)
    (subst (λ m. s ≡ o ∷ holes m) here (each 0 (omega arith)))
    (each_begun holes (suc n) os ss (omega (arith, counted))
    (λ k inside. let after : n + suc k ≡ suc n + k = omega arith in
    subst (λ m. get_or ss k [] ≡ get_or os k [] ∷ holes m) after (each (suc k) (omega (arith, inside)))))

module _ (bound : List BoundContour) where
  -- the holes of the n-th shape
  abbrev holes_in : ℕ → List (List Step)
  holes_in n = own_holes bound n ++ found_holes bound n

  -- the shapes that contours begin, which are numbered from n on
  begun_from : (n : ℕ) (bs : List BoundContour) → AreNumbers n (map (λ (b : BoundContour). b.contour) bs) →
      begun holes_in n (outline_walks bs)
      ≡ flat_map (λ (b : BoundContour). shape_begun_by bound b.contour.role b.contour.steps) bs
  begun_from n [] are = refl
  begun_from n (b ∷ bs) are = by b.contour.role are.0 (begun_from (after n b.contour.role) bs are.1)
    where
      later : List BoundContour
      later = filter (λ (d : BoundContour). is_outline d.contour.role) bs

      rest : List (List (List Step))
      rest = flat_map (λ (d : BoundContour). shape_begun_by bound d.contour.role d.contour.steps) bs

      by : (r : Role) → IsNumber n r →
          begun holes_in (after n r) (map (λ (d : BoundContour). d.contour.steps) later) ≡ rest →
          begun holes_in n (map (λ (d : BoundContour). d.contour.steps) (cond (is_outline r) (b ∷ later) later))
          ≡ shape_begun_by bound r b.contour.steps ++ rest
      by (outline m) is h = ap₂ (λ k ss. (b.contour.steps ∷ holes_in k) ∷ ss) (sym is) h
      by (own_hole m) is h = h
      by free_hole is h = h

  pub shapes_begin : AreNumbers 0 (map (λ (b : BoundContour). b.contour) bound) →
      begun holes_in 0 (outline_walks bound) ≡ shapes_bound bound
  shapes_begin are = begun_from 0 bound are
