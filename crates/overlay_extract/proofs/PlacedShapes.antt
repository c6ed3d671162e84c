-- The places of outlines, with those of the holes of their groups and of the holes found. They are the places of the
-- shapes to which the contours are bound.
use Rattle.std.proofs.Common.{◌≡◌, ℕ, ◌+◌, ◌<◌, Bool, true, false, cond, List, [], ◌∷◌, ◌++◌, map, length, get_or, All}
use Rattle.std.proofs.Common.{Option, Some, None, refl}
use Rattle.std.proofs.Common.{sym, ap, ◌∙◌, subst, arith}
use Rattle.std.specs.List.{filter, slice_get}
use Rattle.std.specs.Prelude.{slice_index_or, IfSome}
use Rattle.std.proofs.lemmas.List.{append-nil, length-map, get_or-map, get_or_default, map-append}
use Rattle.std.proofs.lemmas.List.Elements.{All-cons, All-map, All-nil, All-push, filter-append}
use Rattle.overlay_geom.specs.Plane.{Step}
use Rattle.overlay_geom.proofs.Mapped.{map-filter}
use Rattle.overlay_plane.specs.BoundContours.{BoundContour, walks_in, contours_bound, own_holes}
use Rattle.overlay_plane.specs.BoundContours.{found_holes, AreShapesFound}
use Rattle.overlay_plane.specs.ContourNumbers.{AreNumbers, outline_count}
use Rattle.overlay_plane.specs.PlacedContours.{CanBePlaced, ArePlaced, walk_at, walks_at}
use Rattle.overlay_plane.specs.RoledContours.{Role, outline, own_hole, free_hole, Contour, stands_in, is_outline}
use Rattle.overlay_plane.specs.RoledContours.{IsCutBy}
use Rattle.overlay_plane.specs.Turn.{Hand}
use Rattle.overlay_plane.proofs.BoundSteps.{bound_again, bound_at}
use Rattle.overlay_plane.proofs.ContourNumbers.{number_counted, cut_numbered}
use Rattle.overlay_plane.proofs.FoundNumbers.{number_found}
use Rattle.overlay_plane.proofs.PlacesOfContours.{Contains-place}
use Rattle.overlay_plane.proofs.PlacedHoles.{outline_walks, each_begun, shapes_begin}
use Rattle.overlay_extract.specs.Places.{number_as, AreInside, HasHolesAdded}
use Rattle.overlay_extract.specs.declared.binding.places.Holes.{Holes}
use Rattle.overlay_extract.specs.declared.binding.places.Holes.TheVariants.{OfGroups, Found}

-- an outline alone
abbrev pub alone : List Step → List (List Step)
alone w = w ∷ []

-- the outlines alone, of the contours and of the bound ones
outlines_alone : (bs : List BoundContour) →
    map (λ (c : Contour). alone c.steps) (filter (λ (c : Contour). is_outline c.role)
    (map (λ (b : BoundContour). b.contour) bs))
    ≡ map alone (outline_walks bs)
outlines_alone bs = ap (map (λ (c : Contour). alone c.steps))
    (sym (map-filter (λ (b : BoundContour). b.contour) (λ (c : Contour). is_outline c.role) bs))
    ∙ again (filter (λ (b : BoundContour). is_outline b.contour.role) bs)
  where
    again : (ds : List BoundContour) → map (λ (c : Contour). alone c.steps) (map (λ (b : BoundContour). b.contour) ds)
        ≡ map alone (map (λ (b : BoundContour). b.contour.steps) ds)
    again [] = refl
    again (d ∷ ds) = ap (λ ws. alone d.contour.steps ∷ ws) (again ds)

module _ (contours : List Contour) (shapes : List (Option ℕ)) (can : CanBePlaced contours shapes)
    (first second third : List (List ℕ))
    (began : walks_at contours first ≡ map (λ (c : Contour). c.steps ∷ [])
    (filter (λ (c : Contour). is_outline c.role) contours))
    (own : HasHolesAdded OfGroups contours (contours_bound contours shapes) first second)
    (found : HasHolesAdded Found contours (contours_bound contours shapes) second third) where
  abbrev bound : List BoundContour
  bound = contours_bound contours shapes

  again : map (λ (b : BoundContour). b.contour) bound ≡ contours
  again = bound_again contours shapes can.counted

  abbrev outlines : List (List Step)
  outlines = outline_walks bound

  -- the holes of the n-th shape
  abbrev holes_in : ℕ → List (List Step)
  holes_in n = own_holes bound n ++ found_holes bound n

  -- the first lists have the outlines alone
  outlines_first : walks_at contours first ≡ map alone outlines
  outlines_first = began
      ∙ ap (λ cs. map (λ (c : Contour). alone c.steps) (filter (λ (c : Contour). is_outline c.role) cs)) (sym again)
      ∙ outlines_alone bound

  long_first : length first ≡ length outlines
  long_first = sym (length-map first (map (walk_at contours))) ∙ ap length outlines_first ∙ length-map outlines alone

  long_third : length third ≡ length outlines
  long_third = found.counted ∙ own.counted ∙ long_first

  each : (n : ℕ) → n < length outlines →
      get_or (walks_at contours third) n [] ≡ get_or outlines n [] ∷ holes_in (0 + n)
  each n inside =
      let from_zero : 0 + n ≡ n = omega arith in
      let in_first : n < length first = omega (arith, inside, long_first) in
      let in_second : n < length second = omega (arith, inside, long_first, own.counted) in
      let in_third : n < length third = omega (arith, inside, long_third) in
      subst (λ k. get_or (walks_at contours third) n [] ≡ get_or outlines n [] ∷ holes_in k) (sym from_zero)
      (get_or-map (map (walk_at contours)) third n [] [] in_third
      ∙ found.added n in_second
      ∙ ap (λ ws. ws ++ found_holes bound n) (own.added n in_first
      ∙ ap (λ ws. ws ++ own_holes bound n) (sym (get_or-map (map (walk_at contours)) first n [] [] in_first)
      ∙ ap (λ ws. get_or ws n []) outlines_first
      ∙ get_or-map alone outlines n [] [] inside)))

  pub are_placed : ArePlaced contours shapes third
  are_placed = record {
    inside = found.inside;
    are = each_begun holes_in 0 outlines (walks_at contours third)
        (length-map third (map (walk_at contours)) ∙ long_third) each
        ∙ shapes_begin bound (subst (AreNumbers 0) (sym again) can.numbered);
  }

-- a fact of all walks holds of the walk at a place
pub walk_has : (P : List Step → Type 0) (contours : List Contour) (k : ℕ) → All P (walks_in contours) →
    k < length contours → P (walk_at contours k)
walk_has P contours k all inside =
    all k [] (let long = length-map contours (λ (c : Contour). c.steps) in omega (arith, inside, long))

-- a fact of the contours' walks holds of those at places
pub placed_have : (P : List Step → Type 0) (contours : List Contour) (places : List (List ℕ)) →
    All P (walks_in contours) → All (All (λ k. k < length contours)) places → All (All P) (walks_at contours places)
placed_have P contours places all inside =
    All-map (All P) (map (walk_at contours)) places
    (λ k d lt. All-map P (walk_at contours) (get_or places k d)
    (λ j e less. walk_has P contours (get_or (get_or places k d) j e) all (inside k d lt j e less)))

-- ---- outlines one by one

-- the outlines alone
abbrev pub outlines_in : List Contour → List (List (List Step))
outlines_in cs = map (λ (c : Contour). c.steps ∷ []) (filter (λ (c : Contour). is_outline c.role) cs)

contour_more : (cs : List Contour) (c : Contour) (t : Bool) → is_outline c.role ≡ t →
    outlines_in (cs ++ c ∷ []) ≡ outlines_in cs ++ map (λ (d : Contour). d.steps ∷ []) (cond t (c ∷ []) [])
contour_more cs c t is =
    ap (map (λ (d : Contour). d.steps ∷ [])) (filter-append (λ (d : Contour). is_outline d.role) cs (c ∷ [])
    ∙ ap (λ s. filter (λ (d : Contour). is_outline d.role) cs ++ cond s (c ∷ []) []) is)
    ∙ map-append (λ (d : Contour). d.steps ∷ []) (filter (λ (d : Contour). is_outline d.role) cs) (cond t (c ∷ []) [])

-- an outline is one more, and a hole none
pub outline_more : (cs : List Contour) (c : Contour) → is_outline c.role ≡ true →
    outlines_in (cs ++ c ∷ []) ≡ outlines_in cs ++ (c.steps ∷ []) ∷ []
outline_more cs c is = contour_more cs c true is

pub hole_more : (cs : List Contour) (c : Contour) → is_outline c.role ≡ false →
    outlines_in (cs ++ c ∷ []) ≡ outlines_in cs
hole_more cs c is = contour_more cs c false is ∙ append-nil (outlines_in cs)

-- a list of one place more
pub alone_inside : (count : ℕ) (places : List (List ℕ)) (k : ℕ) → AreInside count places → k < count →
    AreInside count (places ++ (k ∷ []) ∷ [])
alone_inside count places k all inside = All-push (All (λ i. i < count)) places (k ∷ []) all
    (All-cons (λ i. i < count) k [] inside (All-nil (λ i. i < count)))

pub alone_walks : (contours : List Contour) (places : List (List ℕ)) (k : ℕ) (w : List Step) → walk_at contours k ≡ w →
    walks_at contours (places ++ (k ∷ []) ∷ []) ≡ walks_at contours places ++ (w ∷ []) ∷ []
alone_walks contours places k w is = map-append (map (walk_at contours)) places ((k ∷ []) ∷ [])
    ∙ ap (λ v. walks_at contours places ++ (v ∷ []) ∷ []) is

-- ---- numbers

-- where the contours of a cut are bound, each number is that of an outline
pub can_be_placed : (in_groups : Bool) (filled : Hand) (keeps : List Step → Bool) (steps : List Step)
    (contours : List Contour) → IsCutBy in_groups filled keeps steps contours → (shapes : List (Option ℕ)) →
    AreShapesFound filled contours shapes → CanBePlaced contours shapes
can_be_placed in_groups filled keeps steps contours cut shapes found = record {
  counted = found.counted;
  numbered = numbered;
  found = λ i c at free. by (slice_index_or shapes i None)
      (λ m same. number_found filled contours numbered shapes found i c at free m same);
}
  where
    numbered : AreNumbers 0 contours
    numbered = cut_numbered in_groups filled keeps steps contours cut

    by : (s : Option ℕ) → ((m : ℕ) → s ≡ Some m → m < outline_count contours) →
        IfSome s (λ m. m < outline_count contours)
    by None h = tt
    by (Some m) h = h m refl

-- the numbers of holes of a kind are below the number of shapes
pub numbers_below : (holes : Holes) (contours : List Contour) (shapes : List (Option ℕ)) → CanBePlaced contours shapes →
    All (λ (b : BoundContour). IfSome (number_as holes b.contour.role b.shape) (λ n. n < outline_count contours))
    (contours_bound contours shapes)
numbers_below holes contours shapes can k d less =
    by holes b.contour.role refl
  where
    b : BoundContour
    b = get_or (contours_bound contours shapes) k d

    at : (i : ℕ) × (slice_get contours i ≡ Some b.contour) × (slice_index_or shapes i None ≡ b.shape)
    at = bound_at contours shapes b (k, less, get_or_default (contours_bound contours shapes) k b d less)

    by : (kind : Holes) (r : Role) → b.contour.role ≡ r →
        IfSome (number_as kind r b.shape) (λ n. n < outline_count contours)
    by OfGroups (outline n) is = tt
    by OfGroups (own_hole n) is = let counted = number_counted 0 contours can.numbered b.contour
        (Contains-place contours at.0 b.contour at.1) n (ap stands_in is) in omega arith
    by OfGroups free_hole is = tt
    by Found (outline n) is = tt
    by Found (own_hole n) is = tt
    by Found free_hole is = subst (λ s. IfSome s (λ n. n < outline_count contours)) at.2
        (can.found at.0 b.contour at.1 is)

-- as many lists of one place are there as outlines
pub outlines_counted : (contours : List Contour) (places : List (List ℕ)) →
    walks_at contours places ≡ outlines_in contours → length places ≡ outline_count contours
outlines_counted contours places is = sym (length-map places (map (walk_at contours))) ∙ ap length is
    ∙ length-map (filter (λ (c : Contour). is_outline c.role) contours) (λ (c : Contour). c.steps ∷ [])
