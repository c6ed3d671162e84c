-- A closed walk is split step by step, where it comes back to its start.
use Rattle.std.proofs.Common.{◌≡◌, ℕ, ℤ, List, [], ◌∷◌, ◌++◌, take, drop, refl, sym, ap}
use Rattle.std.proofs.Common.{ap₂, ◌∙◌, subst}
use Rattle.std.specs.List.Sorted.{IsPermutation}
use Rattle.std.proofs.lemmas.List.{append_assoc, append-nil, take-append-drop, map-append, drop-map, take-map}
use Rattle.std.proofs.lemmas.List.Elements.{All-push}
use Rattle.std.proofs.lemmas.List.Sorted.{IsPermutation-refl, IsPermutation-trans, IsPermutation-append_comm}
use Rattle.overlay_geom.specs.Plane.{Point, Step}
use Rattle.overlay_plane.specs.Contours.{all_steps}
use Rattle.overlay_extract.specs.ClosedWalks.{LeadsTo, IsClosedWalk}
use Rattle.overlay_extract.specs.Tours.{IsSplitInto, IsSplitSoFar}
use Rattle.overlay_extract.proofs.ClosedWalks.{leads-push}
use Rattle.overlay_extract.proofs.CutLoops.{all_steps-push}
use Rattle.overlay_extract.proofs.TurnedLoops.{rotated_leads}
use Rattle.overlay_walk.specs.Steps.{plain_step, plain_steps}
use Rattle.overlay_walk.specs.declared.step.Step.{Step as StepTaken}

-- ---- one step more

module _ (start : Point) (walked tour : List Step) (tours : List (List Step)) (s : Step)
    (so_far : IsSplitSoFar start s.from walked tour tours) where
  -- the steps so far, and this one
  with_it : all_steps tours ++ (tour ++ s ∷ []) ≡ walked ++ s ∷ []
  with_it = sym (append_assoc (all_steps tours) tour (s ∷ [])) ∙ ap (λ ws. ws ++ s ∷ []) so_far.steps

  leads : LeadsTo start (tour ++ s ∷ []) s.to
  leads = leads-push start tour s so_far.leads

  -- it leads elsewhere
  pub tour_goes_on : ¬ (s.to ≡ start) → IsSplitSoFar start s.to (walked ++ s ∷ []) (tour ++ s ∷ []) tours
  tour_goes_on elsewhere = record {
    steps = with_it;
    closed = so_far.closed;
    leads = leads;
    at_start = λ back. absurd (elsewhere back);
  }

  -- it leads back to the start
  pub tour_comes_back : s.to ≡ start →
      IsSplitSoFar start s.to (walked ++ s ∷ []) [] (tours ++ (tour ++ s ∷ []) ∷ [])
  tour_comes_back back = record {
    steps = append-nil (all_steps (tours ++ (tour ++ s ∷ []) ∷ [])) ∙ all_steps-push tours (tour ++ s ∷ []) ∙ with_it;
    closed = All-push IsClosedWalk tours (tour ++ s ∷ []) so_far.closed
        (record { start = start; leads_back = subst (LeadsTo start (tour ++ s ∷ [])) back leads });
    leads = sym back;
    at_start = λ same. refl;
  }

-- ---- on the way

-- a part of a closed walk is split, and the rest leads from the point reached back to the start
pub record IsOnItsWay (start : Point) (walked rest tour : List Step) (tours : List (List Step)) : Type 0 where
  pub reached : Point
  pub so_far : IsSplitSoFar start reached walked tour tours
  pub leads_back : LeadsTo reached rest start

-- the next step
pub way_goes_on : (start : Point) (walked : List Step) (s : Step) (rest tour new_tour : List Step)
    (tours new_tours : List (List Step)) → IsOnItsWay start walked (s ∷ rest) tour tours →
    ((walked : List Step) → IsSplitSoFar start s.from walked tour tours →
    IsSplitSoFar start s.to (walked ++ s ∷ []) new_tour new_tours) →
    IsOnItsWay start (walked ++ s ∷ []) rest new_tour new_tours
way_goes_on start walked s rest tour new_tour tours new_tours way on = record {
  reached = s.to;
  so_far = on walked (subst (λ p. IsSplitSoFar start p walked tour tours) (sym way.leads_back.0) way.so_far);
  leads_back = way.leads_back.1;
}

-- where the next step leaves is the point reached
pub reached_here : (start : Point) (walked : List Step) (s : Step) (rest tour : List Step) (tours : List (List Step)) →
    IsOnItsWay start walked (s ∷ rest) tour tours → IsSplitSoFar start s.from walked tour tours
reached_here start walked s rest tour tours way =
    subst (λ p. IsSplitSoFar start p walked tour tours) (sym way.leads_back.0) way.so_far

-- after the last one
pub way_ended : (start : Point) (walk tour : List Step) (tours : List (List Step)) →
    IsOnItsWay start walk [] tour tours →
    IsSplitInto walk tours
way_ended start walk tour tours way = record {
  each_once = subst (λ ws. IsPermutation ws (all_steps tours)) whole (IsPermutation-refl (all_steps tours));
  closed = way.so_far.closed;
}
  where
    whole : all_steps tours ≡ walk
    whole = sym (append-nil (all_steps tours))
        ∙ ap (λ ts. all_steps tours ++ ts) (sym (way.so_far.at_start way.leads_back)) ∙ way.so_far.steps

-- ---- begun elsewhere

-- a closed walk begun at a later place is closed
pub begun_later_closed : (k : ℕ) (walk : List Step) → IsClosedWalk walk → IsClosedWalk (drop k walk ++ take k walk)
begun_later_closed k walk closed =
    let round = rotated_leads closed.start (take k walk) (drop k walk)
    (subst (λ ss. LeadsTo closed.start ss closed.start) (sym (take-append-drop k walk)) closed.leads_back) in
    record { start = round.0; leads_back = round.1 }

-- and what it is split into the walk is split into
pub begun_later_split : (k : ℕ) (walk : List Step) (tours : List (List Step)) →
    IsSplitInto (drop k walk ++ take k walk) tours → IsSplitInto walk tours
begun_later_split k walk tours split = record {
  each_once = IsPermutation-trans walk (drop k walk ++ take k walk) (all_steps tours)
      (subst (λ zs. IsPermutation zs (drop k walk ++ take k walk)) (take-append-drop k walk)
      (IsPermutation-append_comm (take k walk) (drop k walk))) split.each_once;
  closed = split.closed;
}

-- in numbers of its own
pub rotated_plain : {I : Type 0} (whole : I → ℤ) (k : ℕ) (steps : List (StepTaken I)) →
    plain_steps whole (drop k steps ++ take k steps) ≡
    drop k (plain_steps whole steps) ++ take k (plain_steps whole steps)
rotated_plain whole k steps = map-append (plain_step whole) (drop k steps) (take k steps)
    ∙ ap₂ (λ xs ys. xs ++ ys) (sym (drop-map (plain_step whole) k steps)) (sym (take-map (plain_step whole) k steps))
