-- Orbits lead back to where they begin; walks that do are split into tours, one after the other; and the tours of
-- orbits are tours of the sides.
use Rattle.std.proofs.Common.{◌≡◌, ℕ, suc, ◌+◌, ◌<◌, List, [], ◌∷◌, ◌++◌, length, get_or, All, Contains, refl, sym, ap}
use Rattle.std.proofs.Common.{◌∙◌, subst, arith}
use Rattle.std.specs.List.Sorted.{IsPermutation}
use Rattle.std.proofs.lemmas.List.Concat.{flat_map-append}
use Rattle.std.proofs.lemmas.List.Elements.{All-nil, All-append, All-weaker, All-contains, Contains-push}
use Rattle.std.proofs.lemmas.List.Sorted.{IsPermutation-refl, IsPermutation-trans, IsPermutation-append}
use Rattle.std.proofs.lemmas.List.Sorted.{IsPermutation-sym}
use Rattle.std.proofs.lemmas.List.Sorted.{All-permutation, Contains-permutation}
use Rattle.overlay_geom.specs.Plane.{Point, Step}
use Rattle.overlay_plane.specs.Contours.{all_steps, IsContour}
use Rattle.overlay_plane.specs.Turn.{Hand, step_round, no_step, IsOrbit}
use Rattle.overlay_plane.specs.Turn.Hand.{left}
use Rattle.overlay_plane.proofs.ContourSteps.{some_step}
use Rattle.overlay_plane.proofs.Entries.{all_of_entries, Contains-flat_map}
use Rattle.overlay_plane.proofs.ItemsRound.{item_round-here, item_round-whole}
use Rattle.overlay_plane.proofs.OrbitSteps.{goes_on_round}
use Rattle.overlay_extract.specs.ClosedWalks.{LeadsTo, IsClosedWalk}
use Rattle.overlay_extract.specs.Tours.{LiesInOneOrbit, ArePassedByOne, AreSplitIntoTours}
use Rattle.overlay_extract.specs.Tours.{OrbitsMakeTours}
use Rattle.overlay_extract.proofs.CutLoops.{all_steps-push}
use Rattle.overlay_extract.proofs.StepCounts.{all_steps_shuffled}
use Rattle.overlay_extract.proofs.ToursCut.{more_walks}

-- ---- an orbit is a closed walk

-- a walk by the places of its steps
leads_by_places : (s : Step) (ss : List Step) (q : Point) →
    ((k : ℕ) → k < length ss → (get_or (s ∷ ss) k no_step).to ≡ (get_or ss k no_step).from) →
    (get_or (s ∷ ss) (length ss) no_step).to ≡ q → LeadsTo s.to ss q
leads_by_places s [] q on end = end
leads_by_places s (t ∷ ts) q on end = (
  sym (on 0 (omega arith)),
  leads_by_places t ts q (λ k h. on (suc k) (omega arith)) end,
)

-- a walk in which the step after each begins where it ends, round and round, leads back to where it begins
pub closed_round : (walk : List Step) → 0 < length walk →
    ((k : ℕ) → (step_round walk (suc k)).from ≡ (step_round walk k).to) → IsClosedWalk walk
closed_round [] some leads = absurd (omega arith)
closed_round (s ∷ ss) some leads = record {
  start = s.from;
  leads_back = (refl, leads_by_places s ss s.from on end);
}
  where
    at : (k : ℕ) → k < length (s ∷ ss) → step_round (s ∷ ss) k ≡ get_or (s ∷ ss) k no_step
    at k h = item_round-here (s ∷ ss) no_step k h

    on : (k : ℕ) → k < length ss → (get_or (s ∷ ss) k no_step).to ≡ (get_or ss k no_step).from
    on k h = ap (λ (t : Step). t.to) (sym (at k (omega arith))) ∙ sym (leads k)
        ∙ ap (λ (t : Step). t.from) (at (suc k) (omega arith))

    end : (get_or (s ∷ ss) (length ss) no_step).to ≡ s.from
    end = ap (λ (t : Step). t.to) (sym (at (length ss) (omega arith))) ∙ sym (leads (length ss))
        ∙ ap (λ (t : Step). t.from) (item_round-whole (s ∷ ss) no_step ∙ at 0 (omega arith))

-- so an orbit does
pub orbit_closed : (steps : List Step) (hand : Hand) (walk : List Step) → IsOrbit steps hand walk → IsClosedWalk walk
orbit_closed steps hand walk orbit = closed_round walk orbit.some (λ k. (goes_on_round steps hand walk orbit k).leaves)

-- and a contour
pub contour_closed : (walk : List Step) → IsContour walk → IsClosedWalk walk
contour_closed walk contour = closed_round walk (some_step walk contour)
    (λ k. let one_more : suc k ≡ k + 1 = omega arith in
    ap (λ j. (step_round walk j).from) one_more ∙ contour.leads_on k)

-- ---- one walk after the other

-- no walk is split
pub none_split : AreSplitIntoTours [] []
none_split = record {
  each_once = IsPermutation-refl [];
  closed = All-nil IsClosedWalk;
  of_one = All-nil (ArePassedByOne []);
}

-- one more walk is split
pub walk_split : (walks tours : List (List Step)) → AreSplitIntoTours walks tours → (walk : List Step)
    (added : List (List Step)) → IsPermutation walk (all_steps added) → All IsClosedWalk added →
    AreSplitIntoTours (walks ++ walk ∷ []) (tours ++ added)
walk_split walks tours so_far walk added each_once closed = record {
  each_once = subst (λ ss. IsPermutation ss (all_steps (tours ++ added))) (sym (all_steps-push walks walk))
      (subst (IsPermutation (all_steps walks ++ walk)) (sym (flat_map-append (λ (l : List Step). l) tours added))
      (IsPermutation-append (all_steps walks) (all_steps tours) walk (all_steps added) so_far.each_once each_once));
  closed = All-append IsClosedWalk tours added so_far.closed closed;
  of_one = All-append (ArePassedByOne (walks ++ walk ∷ [])) tours added
      (All-weaker (ArePassedByOne walks) (ArePassedByOne (walks ++ walk ∷ [])) (more_walks walks walk) tours
      so_far.of_one)
      (all_of_entries (ArePassedByOne (walks ++ walk ∷ [])) added of_this);
}
  where
    of_this : (t : List Step) → Contains added t → ArePassedByOne (walks ++ walk ∷ []) t
    of_this t c = record {
      walk = walk;
      among = Contains-push walks walk;
      passes = λ s d. Contains-permutation (all_steps added) walk s (IsPermutation-sym walk (all_steps added) each_once)
          (Contains-flat_map (λ (m : List Step). m) added t s c d);
    }

-- in another order they are tours of the walks as well
pub split_shuffled : (walks tours others : List (List Step)) → AreSplitIntoTours walks tours →
    IsPermutation tours others → AreSplitIntoTours walks others
split_shuffled walks tours others split moved = record {
  each_once = IsPermutation-trans (all_steps walks) (all_steps tours) (all_steps others) split.each_once
      (all_steps_shuffled tours others moved);
  closed = All-permutation IsClosedWalk tours others moved split.closed;
  of_one = All-permutation (ArePassedByOne walks) tours others moved split.of_one;
}

-- ---- the tours of orbits

pub orbits_make_tours : OrbitsMakeTours
orbits_make_tours sides orbits tours are split = record {
  each_once = IsPermutation-trans sides (all_steps orbits) (all_steps tours) are.each_once split.each_once;
  closed = split.closed;
  one_orbit = all_of_entries (LiesInOneOrbit sides) tours (λ t c s u d e.
      let by = All-contains (ArePassedByOne orbits) tours t split.of_one c in record {
        walk = by.walk;
        orbit = All-contains (IsOrbit sides left) orbits by.walk are.are by.among;
        has_one = by.passes s d;
        has_other = by.passes u e;
      });
}
