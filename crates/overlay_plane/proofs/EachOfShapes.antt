-- Each of the shapes to which contours are bound winds once or zero times round each point, if they do together and so
-- does each of several alone.
use Rattle.std.proofs.Common.{◌≡◌, ⊎_elim, ℕ, suc, Bool, true, false, List, [], ◌∷◌, ◌++◌, map, length, filter, cond}
use Rattle.std.proofs.Common.{Contains, Option, refl, ap, ◌∙◌, subst, arith, append-nil}
use Rattle.std.specs.List.{flat_map}
use Rattle.std.proofs.lemmas.Bool.{eqb-true}
use Rattle.overlay_geom.specs.Plane.{Step}
use Rattle.overlay_plane.specs.Turn.{Hand}
use Rattle.overlay_plane.specs.BesideOrbits.{HasEachOnce}
use Rattle.overlay_plane.specs.Binding.{walks_of}
use Rattle.overlay_plane.specs.BoundContours.{BoundContour, has_one_shape, AreShapesFound, contours_bound}
use Rattle.overlay_plane.specs.BoundContours.{own_holes, found_holes, shape_begun_by, shapes_bound}
use Rattle.overlay_plane.specs.Contours.{all_steps}
use Rattle.overlay_plane.specs.ContourNumbers.{outline_count}
use Rattle.overlay_plane.specs.RoledContours.{Role, outline, own_hole, free_hole, Contour, is_outline}
use Rattle.overlay_plane.specs.ShapesAlone.{WindsOnceOrNot}
use Rattle.overlay_plane.proofs.BoundSteps.{bound_again}
use Rattle.overlay_plane.proofs.Entries.{Contains-from_flat_map}
use Rattle.overlay_plane.proofs.LaterEntries.{Contains-cases, Each-from_all_pairs, AllPairs-from_each}
use Rattle.overlay_plane.proofs.PartsOfLists.{IsPart, part-all, part-none, part-append, part-flat_map, Each-part}
use Rattle.overlay_plane.proofs.ShuffledSteps.{Differ}

-- ---- lists

-- a part of a list made of parts is a part of it
part-piece : {X Y : Type 0} (f : X → List Y) (xs : List X) (x : X) → Contains xs x → IsPart (f x) (flat_map f xs)
part-piece f [] x c = absurd (elim c.1 [ ])
part-piece f (y ∷ ys) x c = ⊎_elim
    (λ same. subst (λ z. IsPart (f z) (f y ++ flat_map f ys)) same
    (subst (λ zs. IsPart zs (f y ++ flat_map f ys)) (append-nil (f y))
    (part-append (f y) (f y) [] (flat_map f ys) (part-all (f y)) (part-none (flat_map f ys)))))
    (λ later. part-append [] (f y) (f x) (flat_map f ys) (part-none (f y)) (part-piece f ys x later))
    (Contains-cases y ys x c)

-- a list of one entry
list_of_one : {X : Type 0} (xs : List X) (x : X) → length xs ≡ 1 → Contains xs x → xs ≡ x ∷ []
list_of_one [] x one c = absurd (elim c.1 [ ])
list_of_one (y ∷ []) x one c = ⊎_elim (λ same. ap (λ z. z ∷ []) same) (λ later. absurd (elim later.1 [ ]))
    (Contains-cases y [] x c)
list_of_one (y ∷ z ∷ zs) x one c = absurd (omega (arith, one))

-- as many shapes are begun as there are outlines
begun_counted : (bound bs : List BoundContour) →
    length (flat_map (λ b. shape_begun_by bound b.contour.role b.contour.steps) bs) ≡
    outline_count (map (λ b. b.contour) bs)
begun_counted bound [] = refl
begun_counted bound (b ∷ bs) = by b.contour.role (begun_counted bound bs)
  where
    by : (r : Role) → length (flat_map (λ d. shape_begun_by bound d.contour.role d.contour.steps) bs) ≡
        outline_count (map (λ (d : BoundContour). d.contour) bs) →
        length (shape_begun_by bound r b.contour.steps ++ flat_map (λ d. shape_begun_by bound d.contour.role
        d.contour.steps) bs) ≡
        length (cond (is_outline r) (b.contour ∷ filter (λ (c : Contour). is_outline c.role)
        (map (λ (d : BoundContour). d.contour) bs))
        (filter (λ (c : Contour). is_outline c.role) (map (λ (d : BoundContour). d.contour) bs)))
    by (outline n) rest = ap suc rest
    by (own_hole n) rest = rest
    by free_hole rest = rest

module _ (filled : Hand) (contours : List Contour) (shapes : List (Option ℕ))
    (found : AreShapesFound filled contours shapes)
    (once : HasEachOnce (all_steps (walks_of (shapes_bound (contours_bound contours shapes)))))
    (together : WindsOnceOrNot filled (all_steps (walks_of (shapes_bound (contours_bound contours shapes)))))
    (several : has_one_shape contours ≡ false → (b : BoundContour) → Contains (contours_bound contours shapes) b →
    (n : ℕ) → b.contour.role ≡ outline n → HasEachOnce (all_steps (b.contour.steps ∷
    own_holes (contours_bound contours shapes) n ++ found_holes (contours_bound contours shapes) n)) →
    WindsOnceOrNot filled (all_steps (b.contour.steps ∷ own_holes (contours_bound contours shapes) n
    ++ found_holes (contours_bound contours shapes) n))) where
  abbrev bound : List BoundContour
  bound = contours_bound contours shapes

  -- each has each of its steps once
  once_in : (shape : List (List Step)) → Contains (shapes_bound bound) shape → HasEachOnce (all_steps shape)
  once_in shape c = AllPairs-from_each Differ (all_steps shape)
      (Each-part Differ (all_steps shape) (all_steps (walks_of (shapes_bound bound)))
      (part-flat_map (λ (w : List Step). w) shape (walks_of (shapes_bound bound))
      (part-piece (λ (s : List (List Step)). s) (shapes_bound bound) shape c))
      (Each-from_all_pairs Differ (all_steps (walks_of (shapes_bound bound))) once))

  -- a shape that is the only one has all steps
  alone : has_one_shape contours ≡ true → (shape : List (List Step)) → Contains (shapes_bound bound) shape →
      walks_of (shapes_bound bound) ≡ shape
  alone one shape c = ap walks_of (list_of_one (shapes_bound bound) shape (begun_counted bound bound
      ∙ ap outline_count (bound_again contours shapes found.counted)
      ∙ eqb-true (outline_count contours) 1 one) c) ∙ append-nil shape

  pub each_winds : (shape : List (List Step)) → Contains (shapes_bound bound) shape →
      WindsOnceOrNot filled (all_steps shape)
  each_winds shape c = by (has_one_shape contours) refl
    where
      b : (d : BoundContour) × Contains bound d × Contains (shape_begun_by bound d.contour.role d.contour.steps) shape
      b = Contains-from_flat_map (λ (d : BoundContour). shape_begun_by bound d.contour.role d.contour.steps) bound shape
          c

      by_role : has_one_shape contours ≡ false → (r : Role) → b.0.contour.role ≡ r →
          Contains (shape_begun_by bound r b.0.contour.steps) shape → WindsOnceOrNot filled (all_steps shape)
      by_role many (outline n) is of_one = ⊎_elim
          (λ same. subst (λ ws. HasEachOnce (all_steps ws) → WindsOnceOrNot filled (all_steps ws)) same
          (several many b.0 b.1 n is) (once_in shape c))
          (λ later. absurd (elim later.1 [ ]))
          (Contains-cases (b.0.contour.steps ∷ own_holes bound n ++ found_holes bound n) [] shape of_one)
      by_role many (own_hole n) is of_one = absurd (elim of_one.1 [ ])
      by_role many free_hole is of_one = absurd (elim of_one.1 [ ])

      by : (one : Bool) → has_one_shape contours ≡ one → WindsOnceOrNot filled (all_steps shape)
      by true one = subst (λ ws. WindsOnceOrNot filled (all_steps ws)) (alone one shape c) together
      by false many = by_role many b.0.contour.role refl b.2
