-- The loops of the tours of orbits, tour by tour, are those that slicing finds on the sides, in the order in which it
-- finds them.
use Rattle.std.proofs.Common.{◌≡◌, ⊎_elim, ◌&&◌, Bool, true, false, cond, not, ℤ, List, [], ◌∷◌, ◌++◌, map, take}
use Rattle.std.proofs.Common.{drop}
use Rattle.std.proofs.Common.{All, Contains, refl, sym, ap, ◌∙◌, subst, arith}
use Rattle.std.specs.List.Sorted.{IsPermutation}
use Rattle.std.proofs.lemmas.Bool.{both_ways, or_parts, and_cases, not_from_false}
use Rattle.std.proofs.lemmas.List.Elements.{All-head, All-contains}
use Rattle.std.proofs.lemmas.List.Elements.{Contains-append_left, Contains-append_right, Contains-append_cases}
use Rattle.std.proofs.lemmas.List.Sorted.{IsPermutation-refl, IsPermutation-sym, IsPermutation-trans}
use Rattle.std.proofs.lemmas.List.Sorted.{IsPermutation-append_left}
use Rattle.std.proofs.lemmas.List.Sorted.{Contains-permutation, length_permutation}
use Rattle.overlay_geom.specs.Plane.{Point, Step, Edge, edge_of, edge_eq, edge_lt, point_eq, point_lt, reversed_step}
use Rattle.overlay_geom.specs.Plane.{backward}
use Rattle.overlay_geom.specs.Edges.{CountedEdge}
use Rattle.overlay_geom.proofs.Entries.{Contains-head, Contains-later}
use Rattle.overlay_geom.proofs.Orders.{edge_eq-same, edge_lt-order, lt_or_eq}
use Rattle.overlay_plane.specs.Contours.{all_steps}
use Rattle.overlay_plane.specs.Nodes.{IsBalancedArrangement}
use Rattle.overlay_plane.specs.Turn.{IsOrbit}
use Rattle.overlay_plane.specs.Turn.Hand.{left, right}
use Rattle.overlay_plane.proofs.Entries.{all_of_entries, Contains-map, Contains-from_map, Contains-flat_map}
use Rattle.overlay_plane.proofs.Entries.{Contains-from_flat_map}
use Rattle.overlay_plane.proofs.LaterEntries.{Each, Each-from_all_pairs}
use Rattle.overlay_extract.specs.ClosedWalks.{LeadsTo, HasLength, NoneLeaves}
use Rattle.overlay_extract.specs.FilledSides.{filled_sides, IsFilledSide, AreFilledSides}
use Rattle.overlay_extract.specs.Repeats.{IsCutAtRepeats}
use Rattle.overlay_extract.specs.SlicingWalks.{loop_by_hand, IsSlicingWalk, BeginsAtFirst, AreLoopsOfWalks}
use Rattle.overlay_extract.specs.SlicingWalks.{AreFoundInOrder}
use Rattle.overlay_extract.specs.SlicingWalks.AreLoopsOfWalks.{none_open, walked}
use Rattle.overlay_extract.specs.TourOrder.{IsTourFrom, last_step, leaves_along_first, found_edge, is_tour_before}
use Rattle.overlay_extract.specs.TourOrder.{IsTourOfOne, AreToursInOrder, AreLoopsOfTour, AreLoopsOfTours}
use Rattle.overlay_extract.specs.TourOrder.AreLoopsOfTours.{none, more}
use Rattle.overlay_extract.specs.Tours.{AreOrbits}
use Rattle.overlay_extract.proofs.FoundEdges.{first_forward, found_along, found_back, found_first, last_backward}
use Rattle.overlay_extract.proofs.FoundEdges.{last_contained, last_returns, none_returns, not_along_upper}
use Rattle.overlay_extract.proofs.GoingOn.{GoOn, first_steps, back_in_two, goes_back, part_round_goes_on}
use Rattle.overlay_extract.proofs.NextSides.{next_sides_lead_back}
use Rattle.overlay_extract.proofs.SideLists.{sides_listed}
use Rattle.overlay_extract.proofs.SideOnce.{filled_sides_long}
use Rattle.overlay_extract.proofs.SideSpokes.{along_back, side_of_back}
use Rattle.overlay_extract.proofs.TurnedLoops.{backward_steps, leads_back, rotated, steps_again}

module _ (fills : ℤ → Bool) (count : CountedEdge → ℤ) (es : List CountedEdge)
    (arranged : IsBalancedArrangement count es) where
  abbrev sides : List Step
  sides = filled_sides fills count es

  -- ---- the sides by the other hand

  pub backs_listed : AreFilledSides fills count es right (map reversed_step sides)
  backs_listed = record { sides = are; all = all }
    where
      are : (s : Step) → Contains (map reversed_step sides) s → IsFilledSide fills count es right s
      are s c =
          let from = Contains-from_map reversed_step sides s c in
          let side = (sides_listed fills count es arranged).sides from.0 from.1 in
          subst (IsFilledSide fills count es right) from.2 (record {
            edge = side.edge;
            along = along_back count es arranged from.0.from side.edge from.0 side.along;
            filled = ap fills (side_of_back count es arranged side.edge from.0 side.along left) ∙ side.filled;
          })

      all : (s : Step) → IsFilledSide fills count es right s → Contains (map reversed_step sides) s
      all s side = Contains-map reversed_step sides (reversed_step s)
          ((sides_listed fills count es arranged).all (reversed_step s) (record {
            edge = side.edge;
            along = along_back count es arranged s.from side.edge s side.along;
            filled = ap fills (side_of_back count es arranged side.edge s side.along right) ∙ side.filled;
          }))

  -- ---- what is known of each tour

  record Fits (tour : List Step) : Type 0 where
    start : Point
    is : IsTourFrom start tour
    least : All (λ s. point_lt s.from start ≡ false) tour
    goes_on : GoOn sides left tour
    inside : All (Contains sides) tour

  tour_fits : (orbits : List (List Step)) → AreOrbits sides orbits → (tour : List Step) → IsTourOfOne orbits tour →
      Fits tour
  tour_fits orbits orbits_are tour of_one = record {
    start = of_one.start;
    is = of_one.is;
    least = all_of_entries (λ s. point_lt s.from of_one.start ≡ false) tour
        (λ s c. All-contains (λ s. point_lt s.from of_one.start ≡ false) of_one.walk s of_one.least (in_walk s c));
    goes_on = part_round_goes_on sides left of_one.walk tour
        (All-contains (IsOrbit sides left) orbits of_one.walk orbits_are.are of_one.among) of_one.part;
    inside = all_of_entries (Contains sides) tour (λ s c. Contains-permutation (all_steps orbits) sides s
        (IsPermutation-sym sides (all_steps orbits) orbits_are.each_once)
        (Contains-flat_map (λ (w : List Step). w) orbits of_one.walk s of_one.among (in_walk s c)));
  }
    where
      in_walk : (s : Step) → Contains tour s → Contains of_one.walk s
      in_walk s c =
          let part = of_one.part in
          let turned = drop part.place of_one.walk ++ take part.place of_one.walk in
          Contains-permutation turned of_one.walk s
          (IsPermutation-sym of_one.walk turned (rotated part.place of_one.walk))
          (subst (λ zs. Contains zs s) (sym part.is)
          (Contains-append_right part.before (tour ++ part.after) s (Contains-append_left tour part.after s c)))

  long : (tour : List Step) → Fits tour → All HasLength tour
  long tour fits = all_of_entries HasLength tour (λ s c. All-contains HasLength sides s
      (filled_sides_long fills count es arranged) (All-contains (Contains sides) tour s fits.inside c))

  -- no step of it is along an edge before that by which it is found
  none_before : (s : Step) (ss : List Step) → Fits (s ∷ ss) → (u : Step) → Contains (s ∷ ss) u →
      edge_lt (edge_of u) (found_edge s ss) ≡ false
  none_before s ss fits = found_first fits.start s ss fits.is.0 fits.is.1 fits.least (long (s ∷ ss) fits)

  -- ---- the first tour, and those that come later

  module _ (s : Step) (ss : List Step) (fits : Fits (s ∷ ss)) (tours : List (List Step))
      (all_fit : (t : List Step) → Contains tours t → Fits t)
      (later : (t : List Step) → Contains tours t → is_tour_before t (s ∷ ss) ≡ false)
      (open_sides : List Step) (moved : IsPermutation open_sides ((s ∷ ss) ++ all_steps tours)) where
    abbrev last : Step
    last = last_step s ss

    -- no open side is along an edge before that by which the tour is found
    first_of_all : (u : Step) → Contains open_sides u → edge_lt (edge_of u) (found_edge s ss) ≡ false
    first_of_all u c = ⊎_elim (none_before s ss fits u) in_later (Contains-append_cases (s ∷ ss) (all_steps tours) u
        (Contains-permutation open_sides ((s ∷ ss) ++ all_steps tours) u moved c))
      where
        of_tour : (t : List Step) → Contains tours t → Contains t u → edge_lt (edge_of u) (found_edge s ss) ≡ false
        of_tour [] at d = elim d.1 [ ]
        of_tour (t ∷ ts) at d = edge_lt-order.chain (edge_of u) (found_edge t ts) (found_edge s ss)
            (none_before t ts (all_fit (t ∷ ts) at) u d)
            (or_parts (edge_lt (found_edge t ts) (found_edge s ss))
            (edge_eq (found_edge t ts) (found_edge s ss) && (leaves_along_first t ts && not (leaves_along_first s ss)))
            (later (t ∷ ts) at)).0

        in_later : Contains (all_steps tours) u → edge_lt (edge_of u) (found_edge s ss) ≡ false
        in_later d = let from = Contains-from_flat_map (λ (w : List Step). w) tours u d in of_tour from.0 from.1 from.2

    -- where the tour comes back along it, no open side is its upper one
    upper_passed : leaves_along_first s ss ≡ false → (u : Step) → edge_of u ≡ found_edge s ss →
        u.from ≡ (found_edge s ss).a → u.to ≡ (found_edge s ss).b → ¬ (Contains open_sides u)
    upper_passed back u along start end c = ⊎_elim
        (not_along_upper fits.start s ss fits.is.0 fits.is.1 fits.least (long (s ∷ ss) fits) back u start end)
        in_later (Contains-append_cases (s ∷ ss) (all_steps tours) u
        (Contains-permutation open_sides ((s ∷ ss) ++ all_steps tours) u moved c))
      where
        of_tour : (t : List Step) → Contains tours t → Contains t u → ⊥
        of_tour [] at d = elim d.1 [ ]
        of_tour (t ∷ ts) at d = not_along_upper its.start t ts its.is.0 its.is.1 its.least (long (t ∷ ts) its)
            comes_back u
            (start ∙ ap (λ (e : Edge). e.a) (sym same)) (end ∙ ap (λ (e : Edge). e.b) (sym same)) d
          where
            its : Fits (t ∷ ts)
            its = all_fit (t ∷ ts) at

            parts : (edge_lt (found_edge t ts) (found_edge s ss) ≡ false) ×
                ((edge_eq (found_edge t ts) (found_edge s ss)
                && (leaves_along_first t ts && not (leaves_along_first s ss))) ≡ false)
            parts = or_parts (edge_lt (found_edge t ts) (found_edge s ss))
                (edge_eq (found_edge t ts) (found_edge s ss)
                && (leaves_along_first t ts && not (leaves_along_first s ss))) (later (t ∷ ts) at)

            tied : edge_eq (found_edge t ts) (found_edge s ss) ≡ true
            tied = ⊎_elim
                (λ before. absurd (both_ways (edge_lt (found_edge t ts) (found_edge s ss)) parts.0 before))
                (λ ties. ties)
                (lt_or_eq (found_edge t ts) (found_edge s ss)
                (subst (λ e. edge_lt e (found_edge t ts) ≡ false) along (none_before t ts its u d)))

            same : found_edge t ts ≡ found_edge s ss
            same = edge_eq-same (found_edge t ts) (found_edge s ss) tied

            comes_back : leaves_along_first t ts ≡ false
            comes_back = ⊎_elim
                (λ differ. absurd (both_ways (edge_eq (found_edge t ts) (found_edge s ss)) differ tied))
                (λ either. ⊎_elim (λ comes. comes)
                (λ along'. absurd (both_ways (not (leaves_along_first s ss)) along' (not_from_false
                (leaves_along_first s ss) back)))
                (and_cases (leaves_along_first t ts) (not (leaves_along_first s ss)) either))
                (and_cases (edge_eq (found_edge t ts) (found_edge s ss))
                (leaves_along_first t ts && not (leaves_along_first s ss)) parts.1)

        in_later : Contains (all_steps tours) u → ⊥
        in_later d = let from = Contains-from_flat_map (λ (w : List Step). w) tours u d in of_tour from.0 from.1 from.2

    is_open : (u : Step) → Contains (s ∷ ss) u → Contains open_sides u
    is_open u c = Contains-permutation ((s ∷ ss) ++ all_steps tours) open_sides u
        (IsPermutation-sym open_sides ((s ∷ ss) ++ all_steps tours) moved)
        (Contains-append_left (s ∷ ss) (all_steps tours) u c)

    -- ---- where the tour leaves along that edge, it is the next walk

    begins_along : leaves_along_first s ss ≡ true → BeginsAtFirst open_sides left s
    begins_along along = record {
      is_open = is_open s (Contains-head s ss);
      from_smaller_end = first_forward fits.start s ss fits.is.0 fits.is.1 fits.least (long (s ∷ ss) fits);
      first = all_of_entries (λ t. edge_lt (edge_of t) (edge_of s) ≡ false) open_sides
          (λ u c. subst (λ e. edge_lt (edge_of u) e ≡ false)
          (sym (found_along fits.start s ss fits.is.0 fits.is.1 fits.least (long (s ∷ ss) fits) along))
          (first_of_all u c));
      upper_first = λ is_right. absurd (left_is_not_right is_right);
    }
      where
        left_is_not_right : left ≡ right → ⊥
        left_is_not_right e = cc

    walk_along : IsSlicingWalk sides left s ss
    walk_along = record {
      turns = fits.goes_on;
      returns = subst (λ p. LeadsTo p (s ∷ ss) p) (sym fits.is.0.0) fits.is.0;
      first_return = subst (λ p. NoneLeaves p ss) (sym fits.is.0.0) fits.is.1;
    }

    -- ---- where it comes back along it, the walk back is

    comes_to : last.to ≡ fits.start
    comes_to = last_returns fits.start s ss fits.is.0 fits.is.1 fits.least (long (s ∷ ss) fits)

    begins_back : leaves_along_first s ss ≡ false → BeginsAtFirst open_sides right (reversed_step last)
    begins_back back = record {
      is_open = Contains-map reversed_step open_sides last (is_open last (last_contained s ss));
      from_smaller_end = last_backward fits.start s ss fits.is.0 fits.is.1 fits.least (long (s ∷ ss) fits);
      first = all_of_entries (λ t. edge_lt (edge_of t) (edge_of (reversed_step last)) ≡ false) open_sides
          (λ u c. subst (λ e. edge_lt (edge_of u) e ≡ false) (sym along) (first_of_all u c));
      upper_first = λ is_right. upper_passed back (reversed_step last) along (comes_to ∙ sym fits.is.0.0)
          (ap (λ t. cond t s.to last.from) (sym back));
    }
      where
        along : edge_of (reversed_step last) ≡ found_edge s ss
        along = found_back fits.start s ss fits.is.0 fits.is.1 fits.least (long (s ∷ ss) fits) back

    walk_back : IsSlicingWalk sides right (reversed_step last) (backward (first_steps s ss))
    walk_back = record {
      turns = goes_back sides (map reversed_step sides) left right
          (λ a b. next_sides_lead_back fills count es arranged left sides (map reversed_step sides)
          (sides_listed fills count es arranged) backs_listed a b) s ss
          (All-head (Contains sides) s ss fits.inside) fits.goes_on;
      returns = subst (λ ts. LeadsTo last.to ts last.to) (back_in_two s ss)
          (subst (λ p. LeadsTo p (backward (s ∷ ss)) p) (sym comes_to)
          (leads_back fits.start fits.start (s ∷ ss) fits.is.0));
      first_return = all_of_entries (λ u. point_eq u.from last.to ≡ false) (backward (first_steps s ss)) elsewhere;
    }
      where
        elsewhere : (u : Step) → Contains (backward (first_steps s ss)) u → point_eq u.from last.to ≡ false
        elsewhere u c =
            let from = Contains-from_map reversed_step (first_steps s ss) u
            (Contains-permutation (backward (first_steps s ss)) (map reversed_step (first_steps s ss)) u
            (IsPermutation-sym (map reversed_step (first_steps s ss)) (backward (first_steps s ss))
            (backward_steps (first_steps s ss))) c) in
            subst (λ (w : Step). point_eq w.from last.to ≡ false) from.2
            (subst (λ p. point_eq from.0.to p ≡ false) (sym comes_to)
            (none_returns fits.start s ss fits.start fits.is.0.1 fits.is.1 from.0 from.1))

    passed_back : IsPermutation open_sides
        (map reversed_step (reversed_step last ∷ backward (first_steps s ss)) ++ all_steps tours)
    passed_back = subst (λ zs. IsPermutation open_sides (map reversed_step zs ++ all_steps tours)) (back_in_two s ss)
        (IsPermutation-trans open_sides ((s ∷ ss) ++ all_steps tours)
        (map reversed_step (backward (s ∷ ss)) ++ all_steps tours) moved
        (IsPermutation-append_left (all_steps tours) (s ∷ ss) (map reversed_step (backward (s ∷ ss)))
        (steps_again (s ∷ ss))))

    -- ---- either way

    first_walked : (loops others : List (List Step)) → AreLoopsOfTour (s ∷ ss) loops →
        AreLoopsOfWalks sides (all_steps tours) others → AreLoopsOfWalks sides open_sides (loops ++ others)
    first_walked loops others of_tour rest = subst (λ ls. AreLoopsOfWalks sides open_sides (ls ++ others)) of_tour.are
        (by (leaves_along_first s ss) refl of_tour.is_cut)
      where
        by : (t : Bool) → leaves_along_first s ss ≡ t →
            IsCutAtRepeats (cond t (s ∷ ss) (backward (s ∷ ss))) of_tour.cut →
            AreLoopsOfWalks sides open_sides (map (loop_by_hand (cond t left right)) of_tour.cut ++ others)
        by true along now = walked (begins_along along) walk_along moved now rest
        by false back now = walked (begins_back back) walk_back passed_back
            (subst (λ w. IsCutAtRepeats w of_tour.cut) (back_in_two s ss) now) rest

  -- ---- all tours

  all_walked : (tours loops : List (List Step)) → AreLoopsOfTours tours loops →
      ((t : List Step) → Contains tours t → Fits t) → Each (λ s t. is_tour_before t s ≡ false) tours →
      (open_sides : List Step) → IsPermutation open_sides (all_steps tours) → AreLoopsOfWalks sides open_sides loops
  all_walked _ _ none fit order [] moved = none_open
  all_walked _ _ none fit order (u ∷ us) moved = absurd (let same = length_permutation (u ∷ us) [] moved in omega arith)
  all_walked _ _ (more {tour = []} {tours = tours} {loops = loops} {others = others} of_tour rest) fit order
      open_sides moved =
      absurd ((fit [] (Contains-head [] tours)).is)
  all_walked _ _ (more {tour = s ∷ ss} {tours = tours} {loops = loops} {others = others} of_tour rest) fit order
      open_sides moved =
      first_walked s ss (fit (s ∷ ss) (Contains-head (s ∷ ss) tours)) tours
      (λ t c. fit t (Contains-later (s ∷ ss) tours t c)) order.0 open_sides moved loops others of_tour
      (all_walked tours others rest (λ t c. fit t (Contains-later (s ∷ ss) tours t c)) order.1 (all_steps tours)
      (IsPermutation-refl (all_steps tours)))

  -- so the loops of the tours of the orbits are those that slicing finds
  pub loops_found : (orbits tours loops : List (List Step)) → AreOrbits sides orbits →
      IsPermutation sides (all_steps tours) → AreToursInOrder orbits tours → AreLoopsOfTours tours loops →
      AreFoundInOrder sides loops
  loops_found orbits tours loops orbits_are each_once tours_are loops_are = all_walked tours loops loops_are
      (λ t c. tour_fits orbits orbits_are t (All-contains (IsTourOfOne orbits) tours t tours_are.are c))
      (Each-from_all_pairs (λ s t. is_tour_before t s ≡ false) tours tours_are.order) sides each_once
