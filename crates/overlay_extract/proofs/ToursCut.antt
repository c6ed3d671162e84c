-- Walks cut into loops one after the other; and what the loops are of which the walks are tours of filled sides.
use Rattle.std.proofs.Common.{inl, inr, ⊎_elim, Bool, ℤ, List, [], ◌∷◌, ◌++◌, Contains, sym}
use Rattle.std.proofs.Common.{subst}
use Rattle.std.specs.List.Sorted.{IsPermutation}
use Rattle.std.proofs.lemmas.List.{append_assoc}
use Rattle.std.proofs.lemmas.List.Concat.{flat_map-append}
use Rattle.std.proofs.lemmas.List.Elements.{All-nil, All-append, All-weaker, All-contains, Contains-push}
use Rattle.std.proofs.lemmas.List.Elements.{Contains-append_left, Contains-append_right, Contains-append_cases}
use Rattle.std.proofs.lemmas.List.Sorted.{IsPermutation-refl, IsPermutation-trans, IsPermutation-append}
use Rattle.std.proofs.lemmas.List.Sorted.{IsPermutation-sym}
use Rattle.std.proofs.lemmas.List.Sorted.{IsPermutation-append_right, Contains-permutation}
use Rattle.overlay_geom.specs.Plane.{Step, reversed_step}
use Rattle.overlay_geom.specs.Edges.{CountedEdge}
use Rattle.overlay_plane.specs.Contours.{all_steps}
use Rattle.overlay_plane.specs.Groups.{IsSimpleContour}
use Rattle.overlay_plane.specs.Nodes.{IsBalancedArrangement}
use Rattle.overlay_plane.proofs.Entries.{all_of_entries, Contains-flat_map, Contains-from_flat_map}
use Rattle.overlay_plane.proofs.KeptWalks.{Each-first}
use Rattle.overlay_plane.proofs.LaterEntries.{Each-from_all_pairs, AllPairs-from_each}
use Rattle.overlay_plane.proofs.ShuffledPairs.{once_shuffled}
use Rattle.overlay_plane.proofs.ShuffledSteps.{Differ}
use Rattle.overlay_plane.proofs.SplitLists.{IsPermutation-past}
use Rattle.overlay_extract.specs.ClosedWalks.{IsCutIntoLoops}
use Rattle.overlay_extract.specs.FilledSides.{filled_sides, IsInOneOrbit}
use Rattle.overlay_extract.specs.Loops.{AreLoops}
use Rattle.overlay_extract.specs.Tours.{AreTours, LiesInOneOrbit, ArePassedByOne, IsPassedBothWays, AreCutIntoLoops}
use Rattle.overlay_extract.specs.Tours.{ToursMakeLoops}
use Rattle.overlay_extract.proofs.CutLoops.{all_steps-push}
use Rattle.overlay_extract.proofs.SideOnce.{filled_sides_once}
use Rattle.overlay_extract.proofs.SimpleLoops.{loops_pass_no_side_both_ways}

-- ---- one walk after the other

-- no walk is cut
pub none_cut : AreCutIntoLoops [] []
none_cut = record {
  dropped = [];
  each_once = IsPermutation-refl [];
  both_ways = All-nil (IsPassedBothWays []);
  simple = All-nil IsSimpleContour;
  of_one = All-nil (ArePassedByOne []);
}

-- a walk more among which one passes steps
pub more_walks : (walks : List (List Step)) (walk steps : List Step) → ArePassedByOne walks steps →
    ArePassedByOne (walks ++ walk ∷ []) steps
more_walks walks walk steps by = record {
  walk = by.walk;
  among = Contains-append_left walks (walk ∷ []) by.walk by.among;
  passes = by.passes;
}

more_both_ways : (walks : List (List Step)) (walk : List Step) (s : Step) → IsPassedBothWays walks s →
    IsPassedBothWays (walks ++ walk ∷ []) s
more_both_ways walks walk s by = record {
  walk = by.walk;
  among = Contains-append_left walks (walk ∷ []) by.walk by.among;
  forth = by.forth;
  back = by.back;
}

-- the parts of two lists, put together by what they are
interleaved : (ks ls ms ns : List Step) → IsPermutation ((ks ++ ls) ++ (ms ++ ns)) ((ks ++ ms) ++ (ls ++ ns))
interleaved ks ls ms ns = subst (λ zs. IsPermutation zs ((ks ++ ms) ++ (ls ++ ns)))
    (sym (append_assoc ks ls (ms ++ ns)))
    (subst (IsPermutation (ks ++ (ls ++ (ms ++ ns)))) (sym (append_assoc ks ms (ls ++ ns)))
    (IsPermutation-append_right ks (ls ++ (ms ++ ns)) (ms ++ (ls ++ ns)) (IsPermutation-past ls ms ns)))

-- one more walk is cut
module _ (walks loops : List (List Step)) (so_far : AreCutIntoLoops walks loops) (walk : List Step)
    (added : List (List Step)) (cut : IsCutIntoLoops walk added) where
  pub walk_cut : AreCutIntoLoops (walks ++ walk ∷ []) (loops ++ added)
  walk_cut = record {
    dropped = so_far.dropped ++ cut.dropped;
    each_once = subst (λ ss. IsPermutation ss (all_steps (loops ++ added) ++ (so_far.dropped ++ cut.dropped)))
        (sym (all_steps-push walks walk))
        (subst (λ ss. IsPermutation (all_steps walks ++ walk) (ss ++ (so_far.dropped ++ cut.dropped)))
        (sym (flat_map-append (λ (l : List Step). l) loops added))
        (IsPermutation-trans (all_steps walks ++ walk)
        ((all_steps loops ++ so_far.dropped) ++ (all_steps added ++ cut.dropped))
        ((all_steps loops ++ all_steps added) ++ (so_far.dropped ++ cut.dropped))
        (IsPermutation-append (all_steps walks) (all_steps loops ++ so_far.dropped) walk
        (all_steps added ++ cut.dropped) so_far.each_once cut.each_once)
        (interleaved (all_steps loops) so_far.dropped (all_steps added) cut.dropped)));
    both_ways = All-append (IsPassedBothWays (walks ++ walk ∷ [])) so_far.dropped cut.dropped
        (All-weaker (IsPassedBothWays walks) (IsPassedBothWays (walks ++ walk ∷ [])) (more_both_ways walks walk)
        so_far.dropped so_far.both_ways)
        (all_of_entries (IsPassedBothWays (walks ++ walk ∷ [])) cut.dropped here_both_ways);
    simple = All-append IsSimpleContour loops added so_far.simple cut.simple;
    of_one = All-append (ArePassedByOne (walks ++ walk ∷ [])) loops added
        (All-weaker (ArePassedByOne walks) (ArePassedByOne (walks ++ walk ∷ [])) (more_walks walks walk) loops
        so_far.of_one)
        (all_of_entries (ArePassedByOne (walks ++ walk ∷ [])) added of_this);
  }
    where
      inside : (s : Step) → Contains (all_steps added ++ cut.dropped) s → Contains walk s
      inside s c = Contains-permutation (all_steps added ++ cut.dropped) walk s
          (IsPermutation-sym walk (all_steps added ++ cut.dropped) cut.each_once) c

      here_both_ways : (s : Step) → Contains cut.dropped s → IsPassedBothWays (walks ++ walk ∷ []) s
      here_both_ways s c = record {
        walk = walk;
        among = Contains-push walks walk;
        forth = inside s (Contains-append_right (all_steps added) cut.dropped s c);
        back = inside (reversed_step s) (Contains-append_right (all_steps added) cut.dropped (reversed_step s)
            (All-contains (λ t. Contains cut.dropped (reversed_step t)) cut.dropped s cut.both_ways c));
      }

      of_this : (l : List Step) → Contains added l → ArePassedByOne (walks ++ walk ∷ []) l
      of_this l c = record {
        walk = walk;
        among = Contains-push walks walk;
        passes = λ s d. inside s (Contains-append_left (all_steps added) cut.dropped s
            (Contains-flat_map (λ (m : List Step). m) added l s c d));
      }

-- ---- tours

module _ (fills : ℤ → Bool) (count : CountedEdge → ℤ) (es : List CountedEdge)
    (arranged : IsBalancedArrangement count es) (tours loops : List (List Step))
    (are : AreTours (filled_sides fills count es) tours) (cut : AreCutIntoLoops tours loops) where
  abbrev sides : List Step
  sides = filled_sides fills count es

  -- each side stands in a loop, or is dropped
  once : IsPermutation sides (all_steps loops ++ cut.dropped)
  once = IsPermutation-trans sides (all_steps tours) (all_steps loops ++ cut.dropped) are.each_once cut.each_once

  -- the steps of loops are sides
  are_sides : (s : Step) → Contains (all_steps loops) s → Contains sides s
  are_sides s c = Contains-permutation (all_steps loops ++ cut.dropped) sides s
      (IsPermutation-sym sides (all_steps loops ++ cut.dropped) once)
      (Contains-append_left (all_steps loops) cut.dropped s c)

  -- what a tour passes lies in one orbit
  lies : (w : List Step) → Contains tours w → LiesInOneOrbit sides w
  lies w c = All-contains (LiesInOneOrbit sides) tours w are.one_orbit c

  pub loops_made : AreLoops sides loops
  loops_made = record {
    are_sides = all_of_entries (Contains sides) (all_steps loops) are_sides;
    at_most_once = AllPairs-from_each Differ (all_steps loops) (Each-first Differ (all_steps loops) cut.dropped
        (Each-from_all_pairs Differ (all_steps loops ++ cut.dropped)
        (once_shuffled sides (all_steps loops ++ cut.dropped) once (filled_sides_once fills count es arranged))));
    simple = cut.simple;
    one_orbit = all_of_entries (λ l. (s t : Step) → Contains l s → Contains l t → IsInOneOrbit sides s t) loops
        (λ l c s t d e. let by = All-contains (ArePassedByOne tours) loops l cut.of_one c in
        lies by.walk by.among s t (by.passes s d) (by.passes t e));
    taken = λ s c. ⊎_elim (λ stands. inl stands)
        (λ dropped. let by = All-contains (IsPassedBothWays tours) cut.dropped s cut.both_ways dropped in
        inr (lies by.walk by.among s (reversed_step s) by.forth by.back))
        (Contains-append_cases (all_steps loops) cut.dropped s
        (Contains-permutation sides (all_steps loops ++ cut.dropped) s once c));
    left_out = λ s both c. let own = Contains-from_flat_map (λ (l : List Step). l) loops s c in
        loops_pass_no_side_both_ways fills count es arranged own.0
        (all_of_entries (Contains sides) own.0 (λ t d. are_sides t
        (Contains-flat_map (λ (l : List Step). l) loops own.0 t own.1 d)))
        (All-contains IsSimpleContour loops own.0 cut.simple own.1) s both own.2;
  }

-- the law
pub tours_make_loops : ToursMakeLoops
tours_make_loops = loops_made
