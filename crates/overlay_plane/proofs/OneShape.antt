-- One of the shapes to which contours that follow a rule are bound. It winds once or zero times round each point if its
-- winding is once beside its lowest edge at its leftmost lowest point. That edge belongs to a contour that stands in
-- the shape from the start, so the winding is once along these contours, and along the holes found for them.
use Rattle.std.proofs.Common.{◌≡◌, ◌⊎◌, inl, inr, ⊎_elim, ℕ, Bool, true, false, ℤ, pos, ◌+ℤ◌, List, ◌∷◌, ◌++◌}
use Rattle.std.proofs.Common.{filter, Contains, Option, Some, refl, sym, ap, ◌∙◌, subst}
use Rattle.std.proofs.lemmas.Bool.{eqb-true, eq-eqb, false≢true}
use Rattle.std.proofs.lemmas.List.Elements.{All-contains, Contains-append_cases, Contains-append_left}
use Rattle.std.proofs.lemmas.Option.{none-some, same_Some}
use Rattle.overlay_geom.specs.Plane.{Step, edge_of}
use Rattle.overlay_geom.specs.Edges.{CountedEdge}
use Rattle.overlay_plane.specs.Turn.{Hand}
use Rattle.overlay_plane.specs.Turn.Hand.{left, right}
use Rattle.overlay_plane.specs.BesideOrbits.{winding_under, winding_beside, WalksAlong, IsBalancedPart, HasEachOnce}
use Rattle.overlay_plane.specs.LeftmostSteps.{HasLeftmost}
use Rattle.overlay_plane.specs.Contours.{is_filled_above, all_steps, IsContour}
use Rattle.overlay_plane.specs.ContourNumbers.{AreNumbers}
use Rattle.overlay_plane.specs.ContourWindings.{once_round}
use Rattle.overlay_plane.specs.RoledContours.{Role, outline, own_hole, free_hole, Contour, stands_in, is_own_hole_of}
use Rattle.overlay_plane.specs.BoundContours.{BoundContour, walks_in, has_one_shape, AreShapesFound}
use Rattle.overlay_plane.specs.BoundContours.{contours_bound, own_holes, found_holes}
use Rattle.overlay_plane.specs.ShapesAlone.{HasOneWinding, WindsOnceOrNot}
use Rattle.overlay_plane.proofs.AddedWalks.{contours_part}
use Rattle.overlay_plane.proofs.BeforeTheSteps.{nothing_before_the_steps}
use Rattle.overlay_plane.proofs.BoundSteps.{bound_again, bound_at}
use Rattle.overlay_plane.proofs.Entries.{Contains-filter, Contains-from_filter, Contains-map, Contains-from_map}
use Rattle.overlay_plane.proofs.Entries.{Contains-flat_map, Contains-from_flat_map}
use Rattle.overlay_plane.proofs.FirstInShape.{after_own, lowest_not_found}
use Rattle.overlay_plane.proofs.FoundHoles.{IsFoundFor, hole_found}
use Rattle.overlay_plane.proofs.FoundWindings.{found_once}
use Rattle.overlay_plane.proofs.HoleWindings.{empty_below}
use Rattle.overlay_plane.proofs.LaterEntries.{Contains-cases}
use Rattle.overlay_plane.proofs.LostHoles.{HaveEmptyAbove}
use Rattle.overlay_plane.proofs.NumberedContours.{one_outline}
use Rattle.overlay_plane.proofs.OnceOrNot.{winds_once_or_not}
use Rattle.overlay_plane.proofs.PlacesOfContours.{Contains-place, place_of_walk}
use Rattle.overlay_plane.proofs.RuledWalks.{FollowRule}
use Rattle.overlay_plane.proofs.StartWindings.{once_from_none}
use Rattle.overlay_plane.proofs.Totals.{Contains-head, Contains-later}

-- a hole of a group stands in its shape
stands_of_own : (n : ℕ) (r : Role) → is_own_hole_of n r ≡ true → stands_in r ≡ Some n
stands_of_own n (outline m) h = absurd (false≢true h)
stands_of_own n (own_hole m) h = ap Some (eqb-true m n h)
stands_of_own n free_hole h = absurd (false≢true h)

module _ (holds : ℤ → ℤ → Bool) (subj clip : CountedEdge → ℤ) (es : List CountedEdge) (filled : Hand)
    (contours : List Contour) (follow : FollowRule holds subj clip es filled (walks_in contours))
    (numbered : AreNumbers 0 contours) (steps : List Step) (along : WalksAlong es steps)
    (of_steps : (s : Step) → Contains (all_steps (walks_in contours)) s → Contains steps s)
    (shapes : List (Option ℕ)) (found : AreShapesFound filled contours shapes)
    (many : has_one_shape contours ≡ false) (b : BoundContour) (at_b : Contains (contours_bound contours shapes) b)
    (n : ℕ) (is_b : b.contour.role ≡ outline n) where
  abbrev bound : List BoundContour
  bound = contours_bound contours shapes

  abbrev o : Contour
  o = b.contour

  -- the contours of its shape, and their steps
  abbrev ws : List (List Step)
  ws = o.steps ∷ own_holes bound n ++ found_holes bound n

  abbrev taken : List Step
  taken = all_steps ws

  -- a bound contour is one of the contours
  in_contours : (d : BoundContour) → Contains bound d → Contains contours d.contour
  in_contours d c = let place = bound_at contours shapes d c in Contains-place contours place.0 d.contour place.1

  at_o : Contains contours o
  at_o = in_contours b at_b

  -- a walk of the shape stands in it from the start
  record IsOwn (w : List Step) : Type 0 where
    contour : Contour
    among : Contains contours contour
    stands : stands_in contour.role ≡ Some n
    is : contour.steps ≡ w

  -- or is found for it
  abbrev IsFound : List Step → Type 0
  IsFound w = IsFoundFor filled contours n w

  walk_cases : (w : List Step) → Contains ws w → IsOwn w ⊎ IsFound w
  walk_cases w c = ⊎_elim
      (λ same. inl (record { contour = o; among = at_o; stands = ap stands_in is_b; is = same }))
      (λ later. ⊎_elim
      (λ of_own. let d = Contains-from_map (λ (e : BoundContour). e.contour.steps)
      (filter (λ (e : BoundContour). is_own_hole_of n e.contour.role) bound) w of_own in
      let passed = Contains-from_filter (λ (e : BoundContour). is_own_hole_of n e.contour.role) bound d.0 d.1 in
      inl (record {
        contour = d.0.contour;
        among = in_contours d.0 passed.0;
        stands = stands_of_own n d.0.contour.role passed.1;
        is = d.2;
      }))
      (λ of_found. inr (hole_found filled contours shapes found many n w of_found))
      (Contains-append_cases (own_holes bound n) (found_holes bound n) w later))
      (Contains-cases o.steps (own_holes bound n ++ found_holes bound n) w c)

  -- it is a walk of the contours
  pub in_walks : (w : List Step) → Contains ws w → Contains (walks_in contours) w
  in_walks w c = ⊎_elim
      (λ (own : IsOwn w). subst (λ v. Contains (walks_in contours) v) own.is
      (Contains-map (λ (d : Contour). d.steps) contours own.contour own.among))
      (λ (hole : IsFound w). subst (λ v. Contains (walks_in contours) v) hole.is
      (Contains-map (λ (d : Contour). d.steps) contours hole.contour
      (Contains-place contours hole.place hole.contour hole.at)))
      (walk_cases w c)

  -- and each contour that stands in the shape is a walk of it
  own_in : (c : Contour) → Contains contours c → stands_in c.role ≡ Some n → Contains ws c.steps
  own_in c at stands = by c.role refl
    where
      bound_one : (d : BoundContour) × Contains bound d × (d.contour ≡ c)
      bound_one = Contains-from_map (λ (d : BoundContour). d.contour) bound c
          (subst (λ cs. Contains cs c) (sym (bound_again contours shapes found.counted)) at)

      by : (r : Role) → c.role ≡ r → Contains ws c.steps
      by (outline m) is =
          let same : m ≡ n = same_Some m n (sym (ap stands_in is) ∙ stands) in
          let one = one_outline 0 contours numbered c o at at_o n (is ∙ ap outline same) is_b in
          subst (λ (d : Contour). Contains ws d.steps) (sym one)
          (Contains-head o.steps (own_holes bound n ++ found_holes bound n))
      by (own_hole m) is =
          let same : m ≡ n = same_Some m n (sym (ap stands_in is) ∙ stands) in
          let passes : is_own_hole_of n bound_one.0.contour.role ≡ true =
          ap (λ (d : Contour). is_own_hole_of n d.role) bound_one.2 ∙ ap (is_own_hole_of n) is
          ∙ eq-eqb m n same in
          Contains-later o.steps (own_holes bound n ++ found_holes bound n) c.steps
          (Contains-append_left (own_holes bound n) (found_holes bound n) c.steps
          (subst (λ (d : Contour). Contains (own_holes bound n) d.steps) bound_one.2
          (Contains-map (λ (d : BoundContour). d.contour.steps)
          (filter (λ (d : BoundContour). is_own_hole_of n d.contour.role) bound) bound_one.0
          (Contains-filter (λ (d : BoundContour). is_own_hole_of n d.contour.role) bound bound_one.0 bound_one.1
          passes))))
      by free_hole is = absurd (none-some n (sym (ap stands_in is) ∙ stands))

  -- ---- the steps

  in_contour_steps : (s : Step) → Contains taken s → Contains (all_steps (walks_in contours)) s
  in_contour_steps s c =
      let w = Contains-from_flat_map (λ (v : List Step). v) ws s c in
      Contains-flat_map (λ (v : List Step). v) (walks_in contours) w.0 s (in_walks w.0 w.1) w.2

  in_taken : (w : List Step) → Contains ws w → (s : Step) → Contains w s → Contains taken s
  in_taken w c s d = Contains-flat_map (λ (v : List Step). v) ws w s c d

  pub own_in_taken : (c : Contour) → Contains contours c → stands_in c.role ≡ Some n → (s : Step) →
      Contains c.steps s → Contains taken s
  own_in_taken c at stands s d = in_taken c.steps (own_in c at stands) s d

  contour_of : (w : List Step) → Contains ws w → IsContour w
  contour_of w c = All-contains IsContour (walks_in contours) w follow.bindable.contours (in_walks w c)

  pub part : IsBalancedPart es steps taken
  part = contours_part es steps along ws contour_of (λ s c. of_steps s (in_contour_steps s c))

  -- ---- the lowest step at the leftmost point

  module _ (leftmost : HasLeftmost taken) where
    abbrev lowest : Step
    lowest = leftmost.lowest

    -- it is of a contour that stands in the shape from the start
    pub lowest_own : (c : Contour) × Contains contours c × (stands_in c.role ≡ Some n) × Contains c.steps lowest
    lowest_own = ⊎_elim
        (λ (own : IsOwn w.0). (
          own.contour,
          own.among,
          own.stands,
          subst (λ v. Contains v lowest) (sym own.is) w.2,
        ))
        (λ (hole : IsFound w.0).
        let after = after_own filled contours follow.bindable n hole.place hole.number hole.contour.steps
        (place_of_walk contours hole.place hole.contour hole.at) in
        absurd (lowest_not_found filled contours follow.bindable n taken leftmost hole.contour.steps
        (subst IsContour (sym hole.is) (contour_of w.0 w.1))
        (λ s d. in_taken w.0 w.1 s (subst (λ v. Contains v s) hole.is d)) after.0 after.1 after.2
        (λ s d. own_in_taken after.2.own after.2.among after.2.stands s d)
        (subst (λ v. Contains v lowest) (sym hole.is) w.2)))
        (walk_cases w.0 w.1)
      where
        w : (v : List Step) × Contains ws v × Contains v lowest
        w = Contains-from_flat_map (λ (v : List Step). v) ws lowest leftmost.lowest_taken

    -- below it nothing winds
    none_below : winding_under es taken (edge_of lowest) ≡ pos 0
    none_below = (nothing_before_the_steps es steps taken along part leftmost.point
        leftmost.none_before).under_lowest_step lowest (part.inside lowest leftmost.lowest_taken)
        leftmost.lowest_starts leftmost.none_below

    -- so if it is filled above, the windings along the contours of the shape are equal, and so are those of its
    -- contours from the start
    module _ (empty : HaveEmptyAbove filled contours)
        (alike : (w : List Step) → Contains (walks_in contours) w → HasOneWinding filled es taken w)
        (own_alike : (c d : Contour) → Contains contours c → Contains contours d → stands_in c.role ≡ Some n →
        stands_in d.role ≡ Some n → (s t : Step) → Contains c.steps s → Contains d.steps t →
        winding_beside filled es taken s ≡ winding_beside filled es taken t)
        (filled_there : is_filled_above filled lowest ≡ true) (once : HasEachOnce taken)
        (rises : winding_beside left es taken lowest ≡ winding_beside right es taken lowest +ℤ pos 1) where
      -- beside it the winding is once
      there : winding_beside filled es taken lowest ≡ once_round filled
      there = once_from_none filled es taken lowest rises (empty_below filled es taken lowest filled_there ∙ none_below)

      own_once : (d : Contour) → Contains contours d → stands_in d.role ≡ Some n → (t : Step) → Contains d.steps t →
          winding_beside filled es taken t ≡ once_round filled
      own_once d at stands t e = own_alike d lowest_own.0 at lowest_own.1 stands lowest_own.2 t lowest e lowest_own.3
          ∙ there

      -- and so it is beside each step of the shape
      each_once : (s : Step) → Contains taken s → winding_beside filled es taken s ≡ once_round filled
      each_once s c =
          let w = Contains-from_flat_map (λ (v : List Step). v) ws s c in
          ⊎_elim
          (λ (own : IsOwn w.0). own_once own.contour own.among own.stands s
          (subst (λ v. Contains v s) (sym own.is) w.2))
          (λ (hole : IsFound w.0). found_once holds subj clip es filled contours follow steps taken in_contour_steps
          part alike empty n own_once hole.place hole.number hole.contour hole.at hole.free s
          (subst (λ v. Contains v s) (sym hole.is) w.2))
          (walk_cases w.0 w.1)

      pub winds_alone : WindsOnceOrNot filled taken
      winds_alone = winds_once_or_not es steps along filled taken part once each_once
