-- Each of the shapes to which contours of slices are bound is an outline with its holes.
use Rattle.std.proofs.Common.{◌≡◌, ℕ, Bool, true, false, ◌&&◌, List, [], ◌∷◌, ◌++◌, All, Contains, refl, subst}
use Rattle.std.specs.List.{filter, flat_map}
use Rattle.std.proofs.lemmas.Bool.{and_parts, false≢true}
use Rattle.std.proofs.lemmas.List.Elements.{All-nil, All-cons, All-map, All-append}
use Rattle.overlay_geom.specs.Plane.{Step}
use Rattle.overlay_geom.proofs.Entries.{Contains-head, Contains-later}
use Rattle.overlay_plane.specs.Binding.{is_number}
use Rattle.overlay_plane.specs.BoundContours.{BoundContour, shapes_bound, own_holes, found_holes, shape_begun_by}
use Rattle.overlay_plane.specs.RoledContours.{Role, outline, own_hole, free_hole, is_outline, is_own_hole_of}
use Rattle.overlay_plane.specs.RoledContours.{is_free_hole}
use Rattle.overlay_plane.proofs.Entries.{all_of_entries, Contains-from_filter}

-- the first walk is an outline by what is said of outlines and holes, and the others are holes
abbrev pub IsBegun : (Bool → List Step → Type 0) → List (List Step) → Type 0
IsBegun Fits [] = ⊥
IsBegun Fits (o ∷ hs) = Fits true o × All (Fits false) hs

-- holes are no outlines
own_is_hole : (n : ℕ) (r : Role) → is_own_hole_of n r ≡ true → is_outline r ≡ false
own_is_hole n (outline m) e = absurd (false≢true e)
own_is_hole n (own_hole m) e = refl
own_is_hole n free_hole e = refl

free_is_hole : (r : Role) → is_free_hole r ≡ true → is_outline r ≡ false
free_is_hole (outline m) e = absurd (false≢true e)
free_is_hole (own_hole m) e = refl
free_is_hole free_hole e = refl

module _ (Fits : Bool → List Step → Type 0) (bound : List BoundContour)
    (fits : (b : BoundContour) → Contains bound b → Fits (is_outline b.contour.role) b.contour.steps) where
  holes_fit : (n : ℕ) → All (Fits false) (own_holes bound n ++ found_holes bound n)
  holes_fit n = All-append (Fits false) (own_holes bound n) (found_holes bound n)
      (All-map (Fits false) (λ b. b.contour.steps) (filter own bound)
      (all_of_entries (λ b. Fits false b.contour.steps) (filter own bound) (λ b c.
      let at = Contains-from_filter own bound b c in
      subst (λ t. Fits t b.contour.steps) (own_is_hole n b.contour.role at.1) (fits b at.0))))
      (All-map (Fits false) (λ b. b.contour.steps) (filter free bound)
      (all_of_entries (λ b. Fits false b.contour.steps) (filter free bound) (λ b c.
      let at = Contains-from_filter free bound b c in
      subst (λ t. Fits t b.contour.steps) (free_is_hole b.contour.role
      (and_parts (is_free_hole b.contour.role) (is_number n b.shape) at.1).0) (fits b at.0))))
    where
      own : BoundContour → Bool
      own b = is_own_hole_of n b.contour.role

      free : BoundContour → Bool
      free b = is_free_hole b.contour.role && is_number n b.shape

  begun : (bs : List BoundContour) → ((b : BoundContour) → Contains bs b → Contains bound b) →
      All (IsBegun Fits) (flat_map (λ b. shape_begun_by bound b.contour.role b.contour.steps) bs)
  begun [] inside = All-nil (IsBegun Fits)
  begun (b ∷ bs) inside = All-append (IsBegun Fits) (shape_begun_by bound b.contour.role b.contour.steps)
      (flat_map (λ d. shape_begun_by bound d.contour.role d.contour.steps) bs)
      (by b.contour.role (fits b (inside b (Contains-head b bs))))
      (begun bs (λ d c. inside d (Contains-later b bs d c)))
    where
      by : (r : Role) → Fits (is_outline r) b.contour.steps →
          All (IsBegun Fits) (shape_begun_by bound r b.contour.steps)
      by (outline n) own = All-cons (IsBegun Fits) (b.contour.steps ∷ own_holes bound n ++ found_holes bound n) []
          (own, holes_fit n) (All-nil (IsBegun Fits))
      by (own_hole n) own = All-nil (IsBegun Fits)
      by free_hole own = All-nil (IsBegun Fits)

  pub shapes_begun : All (IsBegun Fits) (shapes_bound bound)
  shapes_begun = begun bound (λ b c. c)
