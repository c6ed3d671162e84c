-- Tours from a start: a tour under way goes on or is ended; an orbit begun at its least point is what its tours pass;
-- and the loops of tours, one tour after the other.
use Rattle.std.proofs.Common.{◌≡◌, ⊎_elim, ℕ, zero, suc, ◌<◌, true, false, cond, List, [], ◌∷◌, ◌++◌, length}
use Rattle.std.proofs.Common.{map}
use Rattle.std.proofs.Common.{take, drop, get_or, All, Contains, refl, sym, ap, ◌∙◌, subst, arith}
use Rattle.std.proofs.lemmas.Bool.{false_from_ne_true}
use Rattle.std.proofs.lemmas.List.{append_assoc, append-nil, drop_more}
use Rattle.std.proofs.lemmas.List.Elements.{All-nil, All-push, All-append, All-weaker, All-contains}
use Rattle.std.proofs.lemmas.List.Elements.{Contains-append_left, Contains-push}
use Rattle.overlay_geom.specs.Plane.{Point, Step, point_eq, point_lt, backward}
use Rattle.overlay_geom.proofs.Orders.{point_eq-same}
use Rattle.overlay_plane.specs.Contours.{all_steps}
use Rattle.overlay_plane.specs.Turn.{no_step}
use Rattle.overlay_plane.proofs.Entries.{all_of_entries}
use Rattle.overlay_plane.proofs.LaterEntries.{Contains-cases}
use Rattle.overlay_extract.specs.ClosedWalks.{LeadsTo, turned_loop}
use Rattle.overlay_extract.specs.Repeats.{IsCutAtRepeats}
use Rattle.overlay_extract.specs.SlicingWalks.{loop_by_hand}
use Rattle.overlay_plane.specs.Turn.Hand.{left, right}
use Rattle.overlay_extract.specs.TourOrder.{IsTourFrom, IsSplitAtStart, IsSplitAtLeast, IsTourOfOne, LeavesAtFirst}
use Rattle.overlay_extract.specs.TourOrder.{AreFromStart}
use Rattle.overlay_extract.specs.TourOrder.{is_walked_along, AreLoopsOfTour, AreLoopsOfTours}
use Rattle.overlay_extract.specs.TourOrder.AreLoopsOfTours.{none, more}
use Rattle.overlay_extract.specs.Tours.{IsSplitSoFar}
use Rattle.overlay_extract.proofs.ClosedWalks.{leads-push}
use Rattle.overlay_extract.proofs.TourSplits.{IsOnItsWay}
use Rattle.overlay_walk.specs.Places.{step_at}

-- ---- one step more

-- a step more, which leaves the start only where it is the first one
once_more : (start : Point) (tour : List Step) (s : Step) → (s.from ≡ start → tour ≡ []) → LeavesAtFirst start tour →
    LeavesAtFirst start (tour ++ s ∷ [])
once_more start [] s at_start once = All-nil (λ t. point_eq t.from start ≡ false)
once_more start (t ∷ ts) s at_start once = All-push (λ u. point_eq u.from start ≡ false) ts s once
    (false_from_ne_true (point_eq s.from start) (λ same. no_cons (at_start (point_eq-same s.from start same))))
  where
    no_cons : t ∷ ts ≡ [] → ⊥
    no_cons e = cc

-- a walk from the start back to it
tour_of : (start : Point) (tour : List Step) (s : Step) → LeadsTo start (tour ++ s ∷ []) start →
    LeavesAtFirst start (tour ++ s ∷ []) → IsTourFrom start (tour ++ s ∷ [])
tour_of start [] s leads once = (leads, once)
tour_of start (t ∷ ts) s leads once = (leads, once)

module _ (start : Point) (walked tour : List Step) (tours : List (List Step)) (s : Step)
    (so_far : IsSplitSoFar start s.from walked tour tours) (from_start : AreFromStart start tour tours) where
  pub start_goes_on : AreFromStart start (tour ++ s ∷ []) tours
  start_goes_on = record {
    ended = from_start.ended;
    under_way = once_more start tour s so_far.at_start from_start.under_way;
  }

  pub start_comes_back : s.to ≡ start → AreFromStart start [] (tours ++ (tour ++ s ∷ []) ∷ [])
  start_comes_back back = record {
    ended = All-push (IsTourFrom start) tours (tour ++ s ∷ []) from_start.ended (tour_of start tour s
        (subst (LeadsTo start (tour ++ s ∷ [])) back (leads-push start tour s so_far.leads))
        (once_more start tour s so_far.at_start from_start.under_way));
    under_way = tt;
  }

-- after the last one the tours pass the walk
pub split_at_start : (start : Point) (walk tour : List Step) (tours : List (List Step)) →
    IsOnItsWay start walk [] tour tours → AreFromStart start tour tours → (step_at walk 0).from ≡ start →
    IsSplitAtStart walk tours
split_at_start start walk tour tours way from_start begins = record {
  passed = sym (append-nil (all_steps tours))
      ∙ ap (λ ts. all_steps tours ++ ts) (sym (way.so_far.at_start way.leads_back)) ∙ way.so_far.steps;
  are = subst (λ p. All (IsTourFrom p) tours) (sym begins) from_start.ended;
}

-- ---- begun at the least point

none_there : (k : ℕ) → get_or [] k no_step ≡ no_step
none_there zero = refl
none_there (suc k) = refl

-- begun at a place, a walk begins with the step there
begins_there : (k : ℕ) (walk : List Step) → (0 < length walk → k < length walk) →
    step_at (drop k walk ++ take k walk) 0 ≡ step_at walk k
begins_there zero [] within = refl
begins_there (suc k) [] within = refl
begins_there k (s ∷ ss) within = ap (λ (ts : List Step). step_at (ts ++ take k (s ∷ ss)) 0)
    (drop_more (s ∷ ss) k no_step (within (omega arith)))

pub split_at_least : (k : ℕ) (walk : List Step) (tours : List (List Step)) → (0 < length walk → k < length walk) →
    All (λ s. point_lt s.from (step_at walk k).from ≡ false) walk → IsSplitAtStart (drop k walk ++ take k walk) tours →
    IsSplitAtLeast walk tours
split_at_least k walk tours within least split = record {
  place = k;
  passed = split.passed;
  start = (step_at walk k).from;
  least = least;
  are = subst (λ (s : Step). All (IsTourFrom s.from) tours) (begins_there k walk within) split.are;
}

-- ---- one orbit more

-- what walks pass one after the other has each of them as a part
part_of : (tours : List (List Step)) (tour : List Step) → Contains tours tour →
    (before : List Step) × (after : List Step) × (all_steps tours ≡ before ++ (tour ++ after))
part_of [] tour c = elim c.1 [ ]
part_of (t ∷ ts) tour c = ⊎_elim
    (λ is. ([], all_steps ts, ap (λ zs. zs ++ all_steps ts) is))
    (λ later. let part = part_of ts tour later in
    (t ++ part.0, part.1, ap (λ zs. t ++ zs) part.2 ∙ sym (append_assoc t part.0 (tour ++ part.1))))
    (Contains-cases t ts tour c)

more_orbits : (walks : List (List Step)) (walk tour : List Step) → IsTourOfOne walks tour →
    IsTourOfOne (walks ++ walk ∷ []) tour
more_orbits walks walk tour of_one = record {
  walk = of_one.walk;
  among = Contains-append_left walks (walk ∷ []) of_one.walk of_one.among;
  part = of_one.part;
  start = of_one.start;
  least = of_one.least;
  is = of_one.is;
}

pub orbit_split : (walks tours : List (List Step)) → All (IsTourOfOne walks) tours → (walk : List Step)
    (added : List (List Step)) → IsSplitAtLeast walk added →
    All (IsTourOfOne (walks ++ walk ∷ [])) (tours ++ added)
orbit_split walks tours so_far walk added split = All-append (IsTourOfOne (walks ++ walk ∷ [])) tours added
    (All-weaker (IsTourOfOne walks) (IsTourOfOne (walks ++ walk ∷ [])) (more_orbits walks walk) tours so_far)
    (all_of_entries (IsTourOfOne (walks ++ walk ∷ [])) added here)
  where
    here : (t : List Step) → Contains added t → IsTourOfOne (walks ++ walk ∷ []) t
    here t c =
        let part = part_of added t c in record {
          walk = walk;
          among = Contains-push walks walk;
          part = record { place = split.place; before = part.0; after = part.1; is = sym split.passed ∙ part.2 };
          start = split.start;
          least = split.least;
          is = All-contains (IsTourFrom split.start) added t split.are c;
        }

-- ---- loops

map-same : (loops : List (List Step)) → map (loop_by_hand left) loops ≡ loops
map-same [] = refl
map-same (l ∷ ls) = ap (λ ms. l ∷ ms) (map-same ls)

-- the loops of a tour that is walked along
pub along_loops : (tour : List Step) (cut : List (List Step)) → is_walked_along tour ≡ true → IsCutAtRepeats tour cut →
    AreLoopsOfTour tour cut
along_loops tour cut along is_cut = record {
  cut = cut;
  is_cut = subst (λ t. IsCutAtRepeats (cond t tour (backward tour)) cut) (sym along) is_cut;
  are = ap (λ t. map (loop_by_hand (cond t left right)) cut) along ∙ map-same cut;
}

-- and of one that is walked back
pub back_loops : (tour : List Step) (cut loops : List (List Step)) → is_walked_along tour ≡ false →
    IsCutAtRepeats (backward tour) cut → loops ≡ map turned_loop cut → AreLoopsOfTour tour loops
back_loops tour cut loops back is_cut turned = record {
  cut = cut;
  is_cut = subst (λ t. IsCutAtRepeats (cond t tour (backward tour)) cut) (sym back) is_cut;
  are = ap (λ t. map (loop_by_hand (cond t left right)) cut) back ∙ sym turned;
}

-- of the tours the loops so far are found, and others to come
abbrev pub AreFoundSoFar : List (List Step) → List (List Step) → List (List Step) → Type 0
AreFoundSoFar tours rest loops = (others : List (List Step)) → AreLoopsOfTours rest others →
    AreLoopsOfTours tours (loops ++ others)

-- one tour more
pub tour_found : (tours rest loops added : List (List Step)) (tour : List Step) →
    AreFoundSoFar tours (tour ∷ rest) loops →
    AreLoopsOfTour tour added → AreFoundSoFar tours rest (loops ++ added)
tour_found tours rest loops added tour so_far of_tour others are = subst (AreLoopsOfTours tours)
    (sym (append_assoc loops added others)) (so_far (added ++ others) (more of_tour are))

-- all of them
pub all_found : (tours loops : List (List Step)) → AreFoundSoFar tours [] loops → AreLoopsOfTours tours loops
all_found tours loops so_far = subst (AreLoopsOfTours tours) (append-nil loops) (so_far [] none)
