-- A further contour adds a place to those of its shape, if it is a hole of the kind that is placed.
use Rattle.std.proofs.Common.{◌≡◌, ◌≢◌, ℕ, zero, suc, ◌+◌, ◌<◌, ◌≤◌, Bool, true, false, cond, ◌&&◌, ◌==◌, List, [], ◌∷◌}
use Rattle.std.proofs.Common.{◌++◌}
use Rattle.std.proofs.Common.{map, take, length, set, get_or, All, Option, Some, None, refl, sym, ap, ap₂, ◌∙◌, subst}
use Rattle.std.proofs.Common.{arith, append_assoc}
use Rattle.std.specs.List.{filter}
use Rattle.std.specs.Prelude.{IfSome}
use Rattle.std.proofs.lemmas.Bool.{eqb-true, eq-eqb, false≢true}
use Rattle.std.proofs.lemmas.List.{append-nil, get_or-map, get_or-set_same, get_or-set_other, length-map, length-set}
use Rattle.std.proofs.lemmas.List.{map-append, take_all, take_more}
use Rattle.std.proofs.lemmas.List.Elements.{All-push, All-set, filter-append}
use Rattle.overlay_geom.specs.Plane.{Step}
use Rattle.overlay_plane.specs.Binding.{is_number}
use Rattle.overlay_plane.specs.BoundContours.{BoundContour, contours_bound}
use Rattle.overlay_plane.specs.RoledContours.{Role, outline, own_hole, free_hole, Contour, is_own_hole_of, is_free_hole}
use Rattle.overlay_plane.specs.PlacedContours.{walk_at}
use Rattle.overlay_extract.specs.Places.{place_list, place_lists, number_as, holes_as, with_place, AreInside}
use Rattle.overlay_extract.specs.Places.{HasHolesAdded}
use Rattle.overlay_extract.specs.declared.binding.places.Holes.{Holes}
use Rattle.overlay_extract.specs.declared.binding.places.ShapePlaces.{ShapePlaces}
use Rattle.overlay_extract.specs.declared.binding.places.Holes.TheVariants.{OfGroups, Found}

-- ---- the contours bound so far

-- a contour and the shape that is found for it
abbrev pub with_shape : Contour → Option ℕ → BoundContour
with_shape c s = record { contour = c; shape = s }

bound_at : (cs : List Contour) (ss : List (Option ℕ)) (k : ℕ) (c : Contour) (s : Option ℕ) (d : BoundContour) →
    k < length cs → k < length ss →
    (get_or (contours_bound cs ss) k d ≡ with_shape (get_or cs k c) (get_or ss k s))
    × (k < length (contours_bound cs ss))
bound_at [] ss k c s d in_contours in_shapes = absurd (elim in_contours [ ])
bound_at (b ∷ cs) [] k c s d in_contours in_shapes = absurd (elim in_shapes [ ])
bound_at (b ∷ cs) (t ∷ ss) zero c s d in_contours in_shapes = (refl, omega arith)
bound_at (b ∷ cs) (t ∷ ss) (suc k) c s d in_contours in_shapes =
    let rest = bound_at cs ss k c s d (omega arith) (omega arith) in (rest.0, omega arith)

-- one more
pub bound_more : (cs : List Contour) (ss : List (Option ℕ)) (k : ℕ) (c : Contour) (s : Option ℕ) → k < length cs →
    k < length ss → get_or cs k c ≡ c → s ≡ get_or ss k s →
    (take (k + 1) (contours_bound cs ss) ≡ take k (contours_bound cs ss) ++ with_shape c s ∷ [])
    × (with_shape c s ≡ get_or (contours_bound cs ss) k (with_shape c s)) × (k < length (contours_bound cs ss))
bound_more cs ss k c s in_contours in_shapes is_contour is_shape =
    let at = bound_at cs ss k c s (with_shape c s) in_contours in_shapes in
    let same : get_or (contours_bound cs ss) k (with_shape c s) ≡ with_shape c s =
    at.0 ∙ ap₂ with_shape is_contour (sym is_shape) in (
      take_more (contours_bound cs ss) k (with_shape c s) at.1
          ∙ ap (λ b. take k (contours_bound cs ss) ++ b ∷ []) same,
      sym same,
      at.1,
    )

-- ---- holes of a kind

-- it is a hole of this kind of the n-th shape
abbrev is_hole_as : Holes → ℕ → BoundContour → Bool
is_hole_as OfGroups n b = is_own_hole_of n b.contour.role
is_hole_as Found n b = is_free_hole b.contour.role && is_number n b.shape

-- its number tells whether the contour is such a hole
tells : (holes : Holes) (n : ℕ) (r : Role) (s : Option ℕ) (w : List Step) →
    is_hole_as holes n (with_shape (record { role = r; steps = w }) s) ≡ is_number n (number_as holes r s)
tells OfGroups n (outline m) s w = refl
tells OfGroups n (own_hole m) s w = refl
tells OfGroups n free_hole s w = refl
tells Found n (outline m) s w = refl
tells Found n (own_hole m) s w = refl
tells Found n free_hole s w = refl

-- those of the first contours, and of one more
steps_more : (p : BoundContour → Bool) (bs : List BoundContour) (b : BoundContour) (t : Bool) → p b ≡ t →
    map (λ (d : BoundContour). d.contour.steps) (filter p (bs ++ b ∷ []))
    ≡ map (λ (d : BoundContour). d.contour.steps) (filter p bs) ++ cond t (b.contour.steps ∷ []) []
steps_more p bs b t is =
    ap (map (λ (d : BoundContour). d.contour.steps)) (filter-append p bs (b ∷ []))
    ∙ map-append (λ (d : BoundContour). d.contour.steps) (filter p bs) (filter p (b ∷ []))
    ∙ ap (λ s. map (λ (d : BoundContour). d.contour.steps) (filter p bs)
    ++ map (λ (d : BoundContour). d.contour.steps) (cond s (b ∷ []) [])) is
    ∙ ap (λ ws. map (λ (d : BoundContour). d.contour.steps) (filter p bs) ++ ws) (one t)
  where
    one : (s : Bool) → map (λ (d : BoundContour). d.contour.steps) (cond s (b ∷ []) [])
        ≡ cond s (b.contour.steps ∷ []) []
    one true = refl
    one false = refl

holes_more : (holes : Holes) (bs : List BoundContour) (r : Role) (w : List Step) (s : Option ℕ) (n : ℕ) →
    holes_as holes (bs ++ with_shape (record { role = r; steps = w }) s ∷ []) n
    ≡ holes_as holes bs n ++ cond (is_number n (number_as holes r s)) (w ∷ []) []
holes_more OfGroups bs r w s n = steps_more (is_hole_as OfGroups n) bs (with_shape (record { role = r; steps = w }) s)
    (is_number n (number_as OfGroups r s)) (tells OfGroups n r s w)
holes_more Found bs r w s n = steps_more (is_hole_as Found n) bs (with_shape (record { role = r; steps = w }) s)
    (is_number n (number_as Found r s)) (tells Found n r s w)

-- ---- places

module _ (contours : List Contour) (place : ℕ) (w : List Step) (is : walk_at contours place ≡ w)
    (inside : place < length contours) (lists : List (List ℕ)) where
  -- the walks of the n-th shape, with the place
  place_more : (number : Option ℕ) → IfSome number (λ m. m < length lists) → (n : ℕ) →
      map (walk_at contours) (get_or (with_place number place lists) n [])
      ≡ map (walk_at contours) (get_or lists n []) ++ cond (is_number n number) (w ∷ []) []
  place_more None counted n = sym (append-nil (map (walk_at contours) (get_or lists n [])))
  place_more (Some m) counted n = by (m == n) refl
    where
      longer : List ℕ
      longer = get_or lists m [] ++ place ∷ []

      by : (t : Bool) → (m == n) ≡ t → map (walk_at contours) (get_or (set lists m longer) n [])
          ≡ map (walk_at contours) (get_or lists n []) ++ cond t (w ∷ []) []
      by true same =
          let here = eqb-true m n same in
          ap (λ k. map (walk_at contours) (get_or (set lists m longer) k [])) (sym here)
          ∙ ap (map (walk_at contours)) (get_or-set_same lists m longer [] counted)
          ∙ map-append (walk_at contours) (get_or lists m []) (place ∷ [])
          ∙ ap₂ (λ k v. map (walk_at contours) (get_or lists k []) ++ v ∷ []) here is
      by false apart =
          ap (map (walk_at contours)) (get_or-set_other lists m n longer [] other)
          ∙ sym (append-nil (map (walk_at contours) (get_or lists n [])))
        where
          other : n ≢ m
          other same = false≢true (sym apart ∙ eq-eqb m n (sym same))

  count_same : (number : Option ℕ) → length (with_place number place lists) ≡ length lists
  count_same None = refl
  count_same (Some m) = length-set lists m (get_or lists m [] ++ place ∷ [])

  inside_more : (number : Option ℕ) → IfSome number (λ m. m < length lists) → AreInside (length contours) lists →
      AreInside (length contours) (with_place number place lists)
  inside_more None counted all = all
  inside_more (Some m) counted all = All-set (All (λ k. k < length contours)) lists m
      (get_or lists m [] ++ place ∷ [])
      (All-push (λ k. k < length contours) (get_or lists m []) place (all m [] counted) inside) all

-- one contour more
pub added_more : (holes : Holes) (contours : List Contour) (bs : List BoundContour) (old lists : List (List ℕ))
    (place : ℕ) (c : Contour) (s : Option ℕ) →
    walk_at contours place ≡ c.steps → place < length contours →
    IfSome (number_as holes c.role s) (λ m. m < length lists) → HasHolesAdded holes contours bs old lists →
    HasHolesAdded holes contours (bs ++ with_shape c s ∷ []) old (with_place (number_as holes c.role s) place lists)
added_more holes contours bs old lists place c s is inside counted so_far = record {
  counted = count_same contours place c.steps is inside lists (number_as holes c.role s) ∙ so_far.counted;
  inside = inside_more contours place c.steps is inside lists (number_as holes c.role s) counted so_far.inside;
  added = λ n less. place_more contours place c.steps is inside lists (number_as holes c.role s) counted n
      ∙ ap (λ ws. ws ++ cond (is_number n (number_as holes c.role s)) (c.steps ∷ []) []) (so_far.added n less)
      ∙ append_assoc (map (walk_at contours) (get_or old n [])) (holes_as holes bs n)
      (cond (is_number n (number_as holes c.role s)) (c.steps ∷ []) [])
      ∙ ap (λ ws. map (walk_at contours) (get_or old n []) ++ ws) (sym (holes_more holes bs c.role c.steps s n));
}

-- the walk of a contour that is read at its place
pub walk_there : (contours : List Contour) (k : ℕ) (c : Contour) → k < length contours → get_or contours k c ≡ c →
    walk_at contours k ≡ c.steps
walk_there contours k c inside is = get_or-map (λ (d : Contour). d.steps) contours k c [] inside
    ∙ ap (λ (d : Contour). d.steps) is

-- a place of a shape, as it is read
module _ (places : List ℕ) (i place : ℕ) (is : place ≡ get_or places i 0) (within : i < length places) where
  -- it is that of a contour
  pub place_inside : (count : ℕ) → All (λ k. k < count) places → place < count
  place_inside count inside = subst (λ k. k < count) (sym is) (inside i 0 within)

  -- it stands behind those before it
  pub place_behind : take (i + 1) places ≡ take i places ++ place ∷ []
  place_behind = take_more places i 0 within ∙ ap (λ k. take i places ++ k ∷ []) (sym is)

-- at first nothing is added
pub added_none : (holes : Holes) (contours : List Contour) (lists : List (List ℕ)) →
    AreInside (length contours) lists → HasHolesAdded holes contours [] lists lists
added_none holes contours lists inside = record {
  counted = refl;
  inside = inside;
  added = λ n less. sym (ap (λ ws. map (walk_at contours) (get_or lists n []) ++ ws) (none holes n)
      ∙ append-nil (map (walk_at contours) (get_or lists n [])));
}
  where
    none : (kind : Holes) (n : ℕ) → holes_as kind [] n ≡ []
    none OfGroups n = refl
    none Found n = refl

-- at last all holes are
pub added_all : (holes : Holes) (contours : List Contour) (found : List (Option ℕ)) (old new : List (List ℕ)) (i : ℕ) →
    length contours ≤ i → HasHolesAdded holes contours (take i (contours_bound contours found)) old new →
    HasHolesAdded holes contours (contours_bound contours found) old new
added_all holes contours found old new i past so_far =
    subst (λ bs. HasHolesAdded holes contours bs old new)
    (take_all i (contours_bound contours found) (let few = bound_few contours found in omega (arith, past, few))) so_far
  where
    bound_few : (cs : List Contour) (ss : List (Option ℕ)) → length (contours_bound cs ss) ≤ length cs
    bound_few [] ss = omega arith
    bound_few (c ∷ cs) [] = omega arith
    bound_few (c ∷ cs) (s ∷ ss) = let rest = bound_few cs ss in omega (arith, rest)

-- the number of a contour is below the count of the shapes
pub number_counted : {A : Type 0} (holes : Holes) (old lists : List (ShapePlaces A)) (bs : List BoundContour) (i : ℕ)
    (c : Contour) (s : Option ℕ) → with_shape c s ≡ get_or bs i (with_shape c s) → i < length bs →
    length (place_lists lists) ≡ length (place_lists old) →
    All (λ (b : BoundContour). IfSome (number_as holes b.contour.role b.shape) (λ n. n < length old)) bs →
    IfSome (number_as holes c.role s) (λ n. n < length (place_lists lists))
number_counted holes old lists bs i c s is inside counted all =
    let long = length-map old place_list in
    subst (λ k. IfSome (number_as holes c.role s) (λ n. n < k)) (sym (counted ∙ long))
    (subst (λ (b : BoundContour). IfSome (number_as holes b.contour.role b.shape) (λ n. n < length old)) (sym is)
    (all i (with_shape c s) inside))
