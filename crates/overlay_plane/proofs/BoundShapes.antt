-- The shapes to which contours are bound have each contour once, if the contours are numbered and a shape is found for
-- each hole. The lists of the contours' parts are permutations of each other.
use Rattle.std.proofs.Common.{◌≡◌, inl, inr, ℕ, suc, ◌+◌, ◌<◌, Bool, true, false, cond, not, ◌&&◌, ◌==◌}
use Rattle.std.proofs.Common.{List, [], ◌∷◌, ◌++◌, map, length, Contains, Option, Some, None, refl, sym, ap, ap₂, ◌∙◌}
use Rattle.std.proofs.Common.{subst, arith, append_assoc, append-nil}
use Rattle.std.specs.List.{filter, flat_map}
use Rattle.std.specs.List.Sorted.{IsPermutation}
use Rattle.std.proofs.lemmas.Bool.{both_ways, and_parts, false_from_ne_true}
use Rattle.std.proofs.lemmas.Grind.{flat_map-append}
use Rattle.std.proofs.lemmas.List.Folds.{flat_map-map}
use Rattle.std.proofs.lemmas.List.Sorted.{IsPermutation-refl, IsPermutation-trans, IsPermutation-append_left}
use Rattle.std.proofs.lemmas.List.Sorted.{IsPermutation-append_right}
use Rattle.overlay_geom.specs.Plane.{Step}
use Rattle.overlay_plane.specs.Binding.{is_number, walks_of}
use Rattle.overlay_plane.specs.RoledContours.{Role, outline, own_hole, free_hole, Contour, is_outline}
use Rattle.overlay_plane.specs.RoledContours.{is_own_hole_of, is_free_hole}
use Rattle.overlay_plane.specs.BoundContours.{BoundContour, own_holes, found_holes}
use Rattle.overlay_plane.specs.BoundContours.{shape_begun_by, shapes_bound}
use Rattle.overlay_plane.specs.ContourNumbers.{IsNumber, after, AreNumbers, outline_count}
use Rattle.overlay_plane.proofs.ShapeNumbers.{is_from, from_start, number_split, not_below}
use Rattle.overlay_plane.proofs.SplitLists.{IsPermutation-past, IsSplit, flat_map-split, filter-same, filter-all}
use Rattle.overlay_plane.proofs.SplitLists.{filter-none}
use Rattle.std.proofs.lemmas.Bool.{not-true}

-- ---- numbers of holes

-- the number of a hole's shape: its shape from the start, or the shape found
abbrev pub number_by : Role → Option ℕ → Option ℕ
number_by (outline m) shape = None
number_by (own_hole m) shape = Some m
number_by free_hole shape = shape

abbrev pub is_hole_role : Role → Bool
is_hole_role r = not (is_outline r)

-- a hole of the n-th shape is one of its outline's group, or one for which it is found
split_hole : (n : ℕ) (r : Role) (shape : Option ℕ) → IsSplit (is_hole_role r && is_number n (number_by r shape))
    (is_own_hole_of n r) (is_free_hole r && is_number n shape)
split_hole n (outline m) shape = inr (refl, refl)
split_hole n (own_hole m) shape = by (m == n)
  where
    by : (t : Bool) → IsSplit t t false
    by true = inl (refl, refl, refl)
    by false = inr (refl, refl)
split_hole n free_hole shape = inr (refl, refl)

-- a contour is an outline, or a hole
split_role : (r : Role) → IsSplit true (is_outline r) (is_hole_role r)
split_role (outline m) = inl (refl, refl, refl)
split_role (own_hole m) = inr (refl, refl)
split_role free_hole = inr (refl, refl)

-- there is no number
abbrev pub has_none : Option ℕ → Bool
has_none None = true
has_none (Some m) = false

-- a hole has a number from 0 on, or none
split_number : (hole : Bool) (shape : Option ℕ) → IsSplit hole (hole && is_from 0 shape) (hole && has_none shape)
split_number false shape = inr (refl, refl)
split_number true None = inr (refl, refl)
split_number true (Some m) = inl (from_start m, refl, refl)

module _ {Y : Type 0} (f : List Step → List Y) (bound : List BoundContour) where
  -- the part of a contour
  abbrev part : BoundContour → List Y
  part b = f b.contour.steps

  -- a hole of the n-th shape, and one of a shape from the n-th on
  abbrev is_hole_of : ℕ → BoundContour → Bool
  is_hole_of n b = is_hole_role b.contour.role && is_number n (number_by b.contour.role b.shape)

  abbrev is_hole_from : ℕ → BoundContour → Bool
  is_hole_from n b = is_hole_role b.contour.role && is_from n (number_by b.contour.role b.shape)

  -- the outlines among contours
  abbrev outlines_in : List BoundContour → List BoundContour
  outlines_in bs = filter (λ b. is_outline b.contour.role) bs

  -- the holes with shapes from the n-th on
  abbrev from_on : ℕ → List Y
  from_on n = flat_map part (filter (is_hole_from n) bound)

  -- the shapes that contours begin
  abbrev begun : List BoundContour → List Y
  begun bs = flat_map f (walks_of (flat_map (λ b. shape_begun_by bound b.contour.role b.contour.steps) bs))

  -- the holes of the n-th shape
  abbrev here : ℕ → List Y
  here n = flat_map f (own_holes bound n ++ found_holes bound n)

  holes_here : (n : ℕ) → IsPermutation (flat_map part (filter (is_hole_of n) bound)) (here n)
  holes_here n = subst (IsPermutation (flat_map part (filter (is_hole_of n) bound)))
      (ap₂ (λ xs ys. xs ++ ys)
      (sym (flat_map-map f (λ (b : BoundContour). b.contour.steps)
      (filter (λ b. is_own_hole_of n b.contour.role) bound)))
      (sym (flat_map-map f (λ (b : BoundContour). b.contour.steps)
      (filter (λ b. is_free_hole b.contour.role && is_number n b.shape) bound)))
      ∙ sym (flat_map-append f (own_holes bound n) (found_holes bound n)))
      (flat_map-split part (is_hole_of n) (λ b. is_own_hole_of n b.contour.role)
      (λ b. is_free_hole b.contour.role && is_number n b.shape) bound
      (λ b c. split_hole n b.contour.role b.shape))

  -- those from the n-th shape on are its own, and those from the next on
  split_from : (n : ℕ) → IsPermutation (from_on n) (here n ++ from_on (suc n))
  split_from n = IsPermutation-trans (from_on n)
      (flat_map part (filter (is_hole_of n) bound) ++ from_on (suc n)) (here n ++ from_on (suc n))
      (flat_map-split part (is_hole_from n) (is_hole_of n) (is_hole_from (suc n)) bound
      (λ b c. number_split n (is_hole_role b.contour.role) (number_by b.contour.role b.shape)))
      (IsPermutation-append_left (from_on (suc n)) (flat_map part (filter (is_hole_of n) bound)) (here n)
      (holes_here n))

  -- the numbers of holes are below n
  abbrev AreBelow : ℕ → Type 0
  AreBelow n = (b : BoundContour) → Contains bound b → is_outline b.contour.role ≡ false → (m : ℕ) →
      number_by b.contour.role b.shape ≡ Some m → m < n

  -- no hole is from n on
  none_from : (n : ℕ) → AreBelow n → filter (is_hole_from n) bound ≡ []
  none_from n below = filter-same (is_hole_from n) (λ b. false) bound
      (λ b c. false_from_ne_true (is_hole_from n b) (λ is.
      let both = and_parts (is_hole_role b.contour.role) (is_from n (number_by b.contour.role b.shape)) is in
      against (number_by b.contour.role b.shape) both.1 (below b c (not-true (is_outline b.contour.role) both.0))))
      ∙ filter-none bound
    where
      against : (shape : Option ℕ) → is_from n shape ≡ true → ¬ ((m : ℕ) → shape ≡ Some m → m < n)
      against None is h = both_ways false refl is
      against (Some m) is h = not_below n m is (h m refl)

  -- contours begin exactly the outlines numbered from n on, with the holes from n on
  begun_alike : (n : ℕ) (bs : List BoundContour) → AreNumbers n (map (λ b. b.contour) bs) →
      AreBelow (n + outline_count (map (λ b. b.contour) bs)) →
      IsPermutation (flat_map part (outlines_in bs) ++ from_on n) (begun bs)
  begun_alike n [] are below = subst (λ hs. IsPermutation (flat_map part hs) []) (sym (none_from n below_n))
      (IsPermutation-refl [])
    where
      below_n : AreBelow n
      below_n b c is m e = let low = below b c is m e in omega arith
  begun_alike n (b ∷ bs) are below = by b.contour.role are.0 (begun_alike (after n b.contour.role) bs are.1) below
    where
      later : List BoundContour
      later = outlines_in bs

      all : List Contour
      all = map (λ (d : BoundContour). d.contour) bs

      by : (r : Role) → IsNumber n r →
          (AreBelow (after n r + outline_count all) → IsPermutation (flat_map part later ++ from_on (after n r))
          (begun bs)) →
          AreBelow (n + length (cond (is_outline r) (b.contour ∷ filter (λ (c : Contour). is_outline c.role) all)
          (filter (λ (c : Contour). is_outline c.role) all))) →
          IsPermutation (flat_map part (cond (is_outline r) (b ∷ later) later) ++ from_on n)
          (flat_map f (walks_of (shape_begun_by bound r b.contour.steps ++ flat_map
          (λ d. shape_begun_by bound d.contour.role d.contour.steps) bs)))
      by (own_hole m) is rest low = rest low
      by free_hole is rest low = rest low
      by (outline m) is rest low =
          let o = f b.contour.steps in
          let moved = rest (λ d c hole k e. let less = low d c hole k e in omega arith) in
          subst (λ ys. IsPermutation ys
          (flat_map f (walks_of (shape_begun_by bound (outline m) b.contour.steps ++ flat_map
          (λ d. shape_begun_by bound d.contour.role d.contour.steps) bs))))
          (sym (append_assoc o (flat_map part later) (from_on n)))
          (subst (λ k. IsPermutation (o ++ (flat_map part later ++ from_on n))
          (flat_map f (walks_of (shape_begun_by bound (outline k) b.contour.steps ++ flat_map
          (λ d. shape_begun_by bound d.contour.role d.contour.steps) bs))))
          (sym is)
          (subst (λ ys. IsPermutation (o ++ (flat_map part later ++ from_on n)) (o ++ ys))
          (sym (flat_map-append f (own_holes bound n ++ found_holes bound n)
          (walks_of (flat_map (λ d. shape_begun_by bound d.contour.role d.contour.steps) bs))))
          (IsPermutation-append_right o (flat_map part later ++ from_on n) (here n ++ begun bs)
          (IsPermutation-trans (flat_map part later ++ from_on n) (flat_map part later ++ (here n ++ from_on (suc n)))
          (here n ++ begun bs)
          (IsPermutation-append_right (flat_map part later) (from_on n) (here n ++ from_on (suc n)) (split_from n))
          (IsPermutation-trans (flat_map part later ++ (here n ++ from_on (suc n)))
          (here n ++ (flat_map part later ++ from_on (suc n))) (here n ++ begun bs)
          (IsPermutation-past (flat_map part later) (here n) (from_on (suc n)))
          (IsPermutation-append_right (here n) (flat_map part later ++ from_on (suc n)) (begun bs) moved))))))

  -- a hole that has no number
  abbrev pub is_lost : BoundContour → Bool
  is_lost b = is_hole_role b.contour.role && has_none (number_by b.contour.role b.shape)

  -- where each number is that of an outline, the shapes have the contours but the holes without a number
  pub parts_split : AreNumbers 0 (map (λ b. b.contour) bound) →
      AreBelow (outline_count (map (λ b. b.contour) bound)) →
      IsPermutation (flat_map part bound)
      (flat_map f (walks_of (shapes_bound bound)) ++ flat_map part (filter is_lost bound))
  parts_split are below =
      IsPermutation-trans (flat_map part bound) (outline_parts ++ flat_map part holes) (begun bound ++ lost)
      (subst (λ bs. IsPermutation (flat_map part bs) (outline_parts ++ flat_map part holes)) (filter-all bound)
      (flat_map-split part (λ b. true) (λ b. is_outline b.contour.role) (λ b. is_hole_role b.contour.role) bound
      (λ b c. split_role b.contour.role)))
      (IsPermutation-trans (outline_parts ++ flat_map part holes) (outline_parts ++ (from_on 0 ++ lost))
      (begun bound ++ lost)
      (IsPermutation-append_right outline_parts (flat_map part holes) (from_on 0 ++ lost)
      (flat_map-split part (λ b. is_hole_role b.contour.role) (is_hole_from 0) is_lost bound
      (λ b c. split_number (is_hole_role b.contour.role) (number_by b.contour.role b.shape))))
      (subst (λ ys. IsPermutation ys (begun bound ++ lost)) (append_assoc outline_parts (from_on 0) lost)
      (IsPermutation-append_left lost (outline_parts ++ from_on 0) (begun bound)
      (begun_alike 0 bound are (λ b c hole m e. let low = below b c hole m e in omega arith)))))
    where
      outline_parts : List Y
      outline_parts = flat_map part (outlines_in bound)

      holes : List BoundContour
      holes = filter (λ b. is_hole_role b.contour.role) bound

      lost : List Y
      lost = flat_map part (filter is_lost bound)

  -- the shapes have each contour, if each hole has a number
  pub parts_alike : AreNumbers 0 (map (λ b. b.contour) bound) → AreBelow (outline_count (map (λ b. b.contour) bound)) →
      ((b : BoundContour) → Contains bound b → is_outline b.contour.role ≡ false →
      ¬ (number_by b.contour.role b.shape ≡ None)) →
      IsPermutation (flat_map part bound) (flat_map f (walks_of (shapes_bound bound)))
  parts_alike are below have = subst (IsPermutation (flat_map part bound))
      (ap (λ bs. flat_map f (walks_of (shapes_bound bound)) ++ flat_map part bs) none_lost
      ∙ append-nil (flat_map f (walks_of (shapes_bound bound))))
      (parts_split are below)
    where
      none_lost : filter is_lost bound ≡ []
      none_lost = filter-same is_lost (λ b. false) bound
          (λ b c. each (is_outline b.contour.role) (number_by b.contour.role b.shape) (have b c)) ∙ filter-none bound
        where
          each : (t : Bool) (shape : Option ℕ) → (t ≡ false → ¬ (shape ≡ None)) → (not t && has_none shape) ≡ false
          each true shape h = refl
          each false None h = absurd (h refl refl)
          each false (Some m) h = refl
