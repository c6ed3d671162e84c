-- Each shape to which all contours of a cut are bound winds once or zero times round each point. Its lowest edge at its
-- leftmost lowest point is filled above, since its outline winds once there.
use Rattle.std.proofs.Common.{◌≡◌, ℕ, Bool, true, false, ℤ, pos, List, [], ◌∷◌, ◌++◌}
use Rattle.std.proofs.Common.{filter, Contains, Option, Some, refl, sym, ap, ◌∙◌, subst, arith}
use Rattle.std.proofs.lemmas.List.Elements.{All-contains}
use Rattle.overlay_geom.specs.Plane.{Step, edge_of}
use Rattle.overlay_geom.specs.Edges.{CountedEdge}
use Rattle.overlay_plane.specs.Turn.{Hand, other_hand}
use Rattle.overlay_plane.specs.Alternates.{Alternates}
use Rattle.overlay_plane.specs.SelectedSteps.{selected_steps}
use Rattle.overlay_plane.specs.BesideOrbits.{winding_under, WalksAlong, IsBalancedPart, HasEachOnce}
use Rattle.overlay_plane.specs.LeftmostSteps.{HasLeftmost}
use Rattle.overlay_plane.specs.Contours.{is_filled_above, outline_or_hole_hand, all_steps, IsContour}
use Rattle.overlay_plane.specs.ContourNumbers.{AreNumbers}
use Rattle.overlay_plane.specs.RoledContours.{outline, Contour, stands_in}
use Rattle.overlay_plane.specs.RoledContours.{IsCutBy}
use Rattle.overlay_plane.specs.BoundContours.{BoundContour, walks_in, has_one_shape, AreShapesFound}
use Rattle.overlay_plane.specs.BoundContours.{contours_bound, own_holes, found_holes}
use Rattle.overlay_plane.specs.Groups.{IsInsideAGroup}
use Rattle.overlay_plane.specs.KeptContours.{AreKeptContours, KeepsAll}
use Rattle.overlay_plane.specs.ShapesAlone.{HasOneWinding, WindsOnceOrNot}
use Rattle.overlay_plane.proofs.AddedWalks.{one_together, contour_part}
use Rattle.overlay_plane.proofs.AlongCuts.{walks_wind_alike}
use Rattle.overlay_plane.proofs.BeforeTheSteps.{nothing_before_the_steps}
use Rattle.overlay_plane.proofs.BesideAcross.{winding_across_alternating_steps}
use Rattle.overlay_plane.proofs.BesideNext.{one_winding_along_orbits}
use Rattle.overlay_plane.proofs.BoundSteps.{bound_at}
use Rattle.overlay_plane.proofs.ContourNumbers.{cut_numbered}
use Rattle.overlay_plane.proofs.CutWindings.{selected_alternate}
use Rattle.overlay_plane.proofs.Entries.{Contains-from_filter, Contains-map, Contains-from_map}
use Rattle.overlay_plane.proofs.FreeHoles.{empty_by, follow_all}
use Rattle.overlay_plane.proofs.GroupedCuts.{contours_are_inside_groups}
use Rattle.overlay_plane.proofs.GroupSteps.{orbit_inside, orbit_alternates}
use Rattle.overlay_plane.proofs.KeptContours.{kept_selected}
use Rattle.overlay_plane.proofs.LeastSteps.{leftmost_steps_exist}
use Rattle.overlay_plane.proofs.NumberedContours.{from_walks}
use Rattle.overlay_plane.proofs.OneShape.{part, in_walks, own_in_taken, lowest_own, winds_alone}
use Rattle.overlay_plane.proofs.OwnContours.{HaveOwn, walks_have_own}
use Rattle.overlay_plane.proofs.OwnGroups.{groups_have_own}
use Rattle.overlay_plane.proofs.PlacesOfContours.{Contains-place}
use Rattle.overlay_plane.proofs.RuledWalks.{FollowRule}
use Rattle.overlay_plane.proofs.StartWindings.{filled_under, once_not_none}
use Rattle.overlay_plane.proofs.Totals.{Contains-head}
use Rattle.overlay_plane.proofs.WalksOfCuts.{selected_along}

-- a contour has a step
first_of_contour : (walk : List Step) → IsContour walk → (s : Step) × Contains walk s
first_of_contour [] contour = absurd (let three = contour.three in omega arith)
first_of_contour (s ∷ ss) contour = (s, Contains-head s ss)

module _ (holds : ℤ → ℤ → Bool) (subj clip : CountedEdge → ℤ) (es : List CountedEdge) (filled : Hand)
    (in_groups : Bool) (keeps : List Step → Bool) (contours : List Contour)
    (kept : AreKeptContours holds subj clip es filled in_groups keeps contours) (all : KeepsAll keeps) where
  abbrev steps : List Step
  steps = selected_steps holds subj clip filled es

  along : WalksAlong es steps
  along = selected_along holds subj clip es filled kept.ruled

  alternates : Alternates steps
  alternates = selected_alternate holds subj clip es kept.ruled filled

  follow : FollowRule holds subj clip es filled (walks_in contours)
  follow = follow_all holds subj clip es filled in_groups keeps contours kept all

  numbered : AreNumbers 0 contours
  numbered = cut_numbered in_groups filled keeps steps contours kept.cut

  selected : (s : Step) → Contains (all_steps (walks_in contours)) s → Contains steps s
  selected = kept_selected holds subj clip es filled in_groups keeps contours kept

  contour_of : (w : List Step) → Contains (walks_in contours) w → IsContour w
  contour_of w c = All-contains IsContour (walks_in contours) w follow.bindable.contours c

  -- contours taken together have one winding along each contour
  alike_by : (t : Bool) → IsCutBy t filled keeps steps contours → (ws : List (List Step)) →
      ((w : List Step) → Contains ws w → Contains (walks_in contours) w) → IsBalancedPart es steps (all_steps ws) →
      (w : List Step) → Contains (walks_in contours) w → HasOneWinding filled es (all_steps ws) w
  alike_by true cut ws are part w c s t in_s in_t =
      let found = Contains-from_map (λ (d : Contour). d.steps) contours w c in
      let own = subst (λ v. IsInsideAGroup filled steps v) found.2
      (All-contains (λ (d : Contour). IsInsideAGroup filled steps d.steps) contours found.0
      (contours_are_inside_groups es steps along alternates filled keeps contours cut) found.1) in
      let in_group = orbit_inside own.group (orbit_alternates steps alternates filled own.group own.grouped)
      (other_hand filled) w own.inside in
      one_winding_along_orbits es steps (all_steps ws) along alternates part filled own.group own.grouped s t
      (in_group s in_s) (in_group t in_t)
  alike_by false cut ws are part w c s t in_s in_t = one_together es steps along filled w ws part.inside
      (λ v d. walks_wind_alike filled es (outline_or_hole_hand filled) steps along alternates cut.walks cut.cut v w
      (of_cut v (are v d)) (of_cut w c)) s t in_s in_t
    where
      of_cut : (v : List Step) → Contains (walks_in contours) v → Contains cut.walks v
      of_cut v d =
          let found = Contains-from_map (λ (e : Contour). e.steps) contours v d in
          subst (λ u. Contains cut.walks u) found.2 (Contains-from_filter keeps cut.walks found.0.steps
          (from_walks filled 0 (filter keeps cut.walks) found.0
          (subst (λ cs. Contains cs found.0) cut.are found.1)).among).0

  own_by : (t : Bool) → IsCutBy t filled keeps steps contours → (n : ℕ) (o : Contour) → Contains contours o →
      o.role ≡ outline n → HaveOwn filled es steps contours n o.steps
  own_by true cut = groups_have_own es steps along alternates filled keeps contours cut
  own_by false cut = walks_have_own holds subj clip es filled kept.ruled keeps contours cut

  module _ (shapes : List (Option ℕ)) (found : AreShapesFound filled contours shapes)
      (many : has_one_shape contours ≡ false) (b : BoundContour) (at_b : Contains (contours_bound contours shapes) b)
      (n : ℕ) (is_b : b.contour.role ≡ outline n) where
    abbrev bound : List BoundContour
    bound = contours_bound contours shapes

    abbrev o : Contour
    o = b.contour

    -- the contours of its shape, and their steps
    abbrev ws : List (List Step)
    ws = o.steps ∷ own_holes bound n ++ found_holes bound n

    abbrev taken : List Step
    taken = all_steps ws

    at_o : Contains contours o
    at_o = let place = bound_at contours shapes b at_b in Contains-place contours place.0 o place.1

    part_taken : IsBalancedPart es steps taken
    part_taken = part holds subj clip es filled contours follow numbered steps along selected shapes found many b at_b n
        is_b

    own_taken : (c : Contour) → Contains contours c → stands_in c.role ≡ Some n → (s : Step) → Contains c.steps s →
        Contains taken s
    own_taken = own_in_taken holds subj clip es filled contours follow numbered steps along selected shapes found many b
        at_b n is_b

    own_contours : HaveOwn filled es steps contours n o.steps
    own_contours = own_by in_groups kept.cut n o at_o is_b

    alike : (w : List Step) → Contains (walks_in contours) w → HasOneWinding filled es taken w
    alike = alike_by in_groups kept.cut ws (in_walks holds subj clip es filled contours follow numbered steps along
        selected shapes found many b at_b n is_b) part_taken

    outline_contour : IsContour o.steps
    outline_contour = contour_of o.steps (Contains-map (λ (d : Contour). d.steps) contours o at_o)

    of_outline : (s : Step) → Contains o.steps s → Contains taken s
    of_outline = own_taken o at_o (ap stands_in is_b)

    -- ---- the lowest step at the leftmost point

    leftmost : HasLeftmost taken
    leftmost = let first = first_of_contour o.steps outline_contour in
        leftmost_steps_exist es steps taken along part_taken.inside first.0 (of_outline first.0 first.1)

    abbrev lowest : Step
    lowest = leftmost.lowest

    own_there : (c : Contour) × Contains contours c × (stands_in c.role ≡ Some n) × Contains c.steps lowest
    own_there = lowest_own holds subj clip es filled contours follow numbered steps along selected shapes found many b
        at_b n is_b leftmost

    -- the outline does not wind below it
    outline_none_below : winding_under es o.steps (edge_of lowest) ≡ pos 0
    outline_none_below = (nothing_before_the_steps es steps o.steps along
        (contour_part es steps along o.steps outline_contour (λ s c. part_taken.inside s (of_outline s c)))
        leftmost.point (λ s c. leftmost.none_before s (of_outline s c))).under_lowest_step
        lowest (part_taken.inside lowest leftmost.lowest_taken) leftmost.lowest_starts
        (λ s c. leftmost.none_below s (of_outline s c))

    -- its filled side is the upper, since the outline winds once there
    filled_there : is_filled_above filled lowest ≡ true
    filled_there = by (is_filled_above filled lowest) refl
      where
        by : (t : Bool) → is_filled_above filled lowest ≡ t → is_filled_above filled lowest ≡ true
        by true is = is
        by false is = absurd (once_not_none filled
            (sym (own_contours.once own_there.0 own_there.1 own_there.2 lowest own_there.3)
            ∙ filled_under filled es o.steps lowest is ∙ outline_none_below))

    -- the shape winds once or zero times round each point
    pub shape_winds : HasEachOnce taken → WindsOnceOrNot filled taken
    shape_winds once = winds_alone holds subj clip es filled contours follow numbered steps along selected shapes found
        many b at_b n is_b leftmost
        (empty_by holds subj clip es filled in_groups keeps contours kept in_groups kept.cut) alike
        (own_contours.alike taken part_taken alike) filled_there once
        ((winding_across_alternating_steps es steps taken alternates part_taken.inside).rises once lowest
        leftmost.lowest_taken)
