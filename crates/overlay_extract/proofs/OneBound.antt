-- The shapes to which contours are bound are determined: each number read is that of a hole whose shape is to be found,
-- and the shape found is unique.
use Rattle.std.proofs.Common.{◌≡◌, ℕ, suc, Bool, true, false, cond, ◌&&◌, List, [], ◌∷◌, ◌++◌, map, length, Option}
use Rattle.std.proofs.Common.{Some, None, filter, refl, sym, ap, ap₂, ◌∙◌, arith}
use Rattle.std.specs.Prelude.{slice_index_or, MatchBool}
use Rattle.std.specs.List.{slice_get, flat_map}
use Rattle.overlay_geom.specs.Plane.{Step}
use Rattle.overlay_plane.specs.Binding.{is_number}
use Rattle.overlay_plane.specs.BoundContours.{BoundContour, AreShapesFound, IsParent, has_one_shape, walks_in, known_in}
use Rattle.overlay_plane.specs.BoundContours.{contours_bound, own_holes, found_holes, shape_begun_by, shapes_bound}
use Rattle.overlay_plane.specs.KeptContours.{CanBeBound}
use Rattle.overlay_plane.specs.RoledContours.{Role, outline, own_hole, free_hole, Contour, is_own_hole_of, is_free_hole}
use Rattle.overlay_plane.specs.Turn.{Hand}
use Rattle.overlay_plane.proofs.OneHoleRound.{one_found}
use Rattle.overlay_extract.proofs.HolesPlaced.{with_shape}

-- two lists have the same at the holes whose shape is to be found
abbrev pub AgreeAtHoles : List Contour → List (Option ℕ) → List (Option ℕ) → Type 0
AgreeAtHoles contours shapes others = (i : ℕ) (c : Contour) → slice_get contours i ≡ Some c → c.role ≡ free_hole →
    slice_index_or shapes i None ≡ slice_index_or others i None

abbrev steps_in : BoundContour → List Step
steps_in b = b.contour.steps

-- the holes of an outline's group are those of the contours alone
own_alike : (n : ℕ) (cs : List Contour) (ss ts : List (Option ℕ)) → length ss ≡ length cs → length ts ≡ length cs →
    own_holes (contours_bound cs ss) n ≡ own_holes (contours_bound cs ts) n
own_alike n [] ss ts l m = refl
own_alike n (c ∷ cs) [] ts l m = absurd (omega (arith, l))
own_alike n (c ∷ cs) (s ∷ ss) [] l m = absurd (omega (arith, m))
own_alike n (c ∷ cs) (s ∷ ss) (t ∷ ts) l m =
    by (is_own_hole_of n c.role) (own_alike n cs ss ts (omega (arith, l)) (omega (arith, m)))
  where
    first : List BoundContour
    first = filter (λ b. is_own_hole_of n b.contour.role) (contours_bound cs ss)

    second : List BoundContour
    second = filter (λ b. is_own_hole_of n b.contour.role) (contours_bound cs ts)

    by : (b : Bool) → map steps_in first ≡ map steps_in second →
        map steps_in (cond b (with_shape c s ∷ first) first) ≡ map steps_in (cond b (with_shape c t ∷ second) second)
    by true same = ap (λ ws. c.steps ∷ ws) same
    by false same = same

-- those that are found for a shape are those of the numbers at the holes
found_alike : (n : ℕ) (cs : List Contour) (ss ts : List (Option ℕ)) → length ss ≡ length cs → length ts ≡ length cs →
    AgreeAtHoles cs ss ts → found_holes (contours_bound cs ss) n ≡ found_holes (contours_bound cs ts) n
found_alike n [] ss ts l m agree = refl
found_alike n (c ∷ cs) [] ts l m agree = absurd (omega (arith, l))
found_alike n (c ∷ cs) (s ∷ ss) [] l m agree = absurd (omega (arith, m))
found_alike n (c ∷ cs) (s ∷ ss) (t ∷ ts) l m agree =
    by c.role (λ is. agree 0 c refl is)
    (found_alike n cs ss ts (omega (arith, l)) (omega (arith, m)) (λ i d at is. agree (suc i) d at is))
  where
    first : List BoundContour
    first = filter (λ b. is_free_hole b.contour.role && is_number n b.shape) (contours_bound cs ss)

    second : List BoundContour
    second = filter (λ b. is_free_hole b.contour.role && is_number n b.shape) (contours_bound cs ts)

    by_test : (b : Bool) → map steps_in first ≡ map steps_in second →
        map steps_in (cond b (with_shape c s ∷ first) first) ≡ map steps_in (cond b (with_shape c t ∷ second) second)
    by_test true same = ap (λ ws. c.steps ∷ ws) same
    by_test false same = same

    by : (r : Role) → (r ≡ free_hole → s ≡ t) → map steps_in first ≡ map steps_in second →
        map steps_in (cond (is_free_hole r && is_number n s) (with_shape c s ∷ first) first)
        ≡ map steps_in (cond (is_free_hole r && is_number n t) (with_shape c t ∷ second) second)
    by (outline k) one same = same
    by (own_hole k) one same = same
    by free_hole one same = by_test (is_number n s) same
        ∙ ap (λ u. map steps_in (cond (is_number n u) (with_shape c t ∷ second) second)) (one refl)

module _ (bound others : List BoundContour) (own : (n : ℕ) → own_holes bound n ≡ own_holes others n)
    (found : (n : ℕ) → found_holes bound n ≡ found_holes others n) where
  -- the shape that an outline begins is unique
  one_begun : (r : Role) (steps : List Step) → shape_begun_by bound r steps ≡ shape_begun_by others r steps
  one_begun (outline n) steps = ap₂ (λ os fs. (steps ∷ os ++ fs) ∷ []) (own n) (found n)
  one_begun (own_hole n) steps = refl
  one_begun free_hole steps = refl

  all_begun : (cs : List Contour) (ss ts : List (Option ℕ)) → length ss ≡ length cs → length ts ≡ length cs →
      flat_map (λ b. shape_begun_by bound b.contour.role b.contour.steps) (contours_bound cs ss)
      ≡ flat_map (λ b. shape_begun_by others b.contour.role b.contour.steps) (contours_bound cs ts)
  all_begun [] ss ts l m = refl
  all_begun (c ∷ cs) [] ts l m = absurd (omega (arith, l))
  all_begun (c ∷ cs) (s ∷ ss) [] l m = absurd (omega (arith, m))
  all_begun (c ∷ cs) (s ∷ ss) (t ∷ ts) l m =
      ap₂ (λ x y. x ++ y) (one_begun c.role c.steps) (all_begun cs ss ts (omega (arith, l)) (omega (arith, m)))

-- the shapes are equal
shapes_alike : (cs : List Contour) (ss ts : List (Option ℕ)) → length ss ≡ length cs → length ts ≡ length cs →
    AgreeAtHoles cs ss ts → shapes_bound (contours_bound cs ss) ≡ shapes_bound (contours_bound cs ts)
shapes_alike cs ss ts l m agree =
    all_begun (contours_bound cs ss) (contours_bound cs ts) (λ n. own_alike n cs ss ts l m)
    (λ n. found_alike n cs ss ts l m agree) cs ss ts l m

module _ (filled : Hand) (contours : List Contour) (can : CanBeBound filled (walks_in contours))
    (shapes others : List (Option ℕ)) (found : AreShapesFound filled contours shapes)
    (found' : AreShapesFound filled contours others) where
  -- one thing is found for each hole
  agree_at_holes : AgreeAtHoles contours shapes others
  agree_at_holes i c at is = by (has_one_shape contours) (slice_index_or shapes i None) (slice_index_or others i None)
      (found.found i c at is) (found'.found i c at is)
    where
      by : (one : Bool) (s t : Option ℕ) → MatchBool one (s ≡ Some 0) (IsParent filled contours i s) →
          MatchBool one (t ≡ Some 0) (IsParent filled contours i t) → s ≡ t
      by true s t first second = first ∙ sym second
      by false s t first second = one_found filled (walks_in contours) can.contours can.single can.distinct_above
          can.settled (known_in contours) i s t first second

  -- the contours are bound to the same shapes
  pub one_bound : shapes_bound (contours_bound contours shapes) ≡ shapes_bound (contours_bound contours others)
  one_bound = shapes_alike contours shapes others found.counted found'.counted agree_at_holes
