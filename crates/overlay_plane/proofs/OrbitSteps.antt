-- An orbit of a set of steps that leads on visits each of its steps once. It contains with each step its next step and
-- the step before. In an alternating set it has three steps or more, since no step leads back along another.
use Rattle.std.proofs.Common.{◌≡◌, ◌⊎◌, inl, inr, ⊎_elim, ℕ, zero, suc, ◌+◌, ◌-◌, ◌%◌, ◌<◌, ◌≤◌, List, length, Contains}
use Rattle.std.proofs.Common.{sym, ap, ◌∙◌, subst, arith}
use Rattle.std.proofs.lemmas.Bool.{cases_lt, cases_order}
use Rattle.std.proofs.lemmas.Nat.{mod_below}
use Rattle.overlay_geom.specs.Plane.{Step}
use Rattle.overlay_plane.specs.Turn.{Hand, IsNextStep, step_round, IsOrbit, no_step}
use Rattle.overlay_plane.specs.Alternates.{Alternates}
use Rattle.overlay_plane.specs.NextSteps.{LeadsOn}
use Rattle.overlay_plane.specs.Orbits.{OrbitsAreCycles, OrbitsHaveThreeSteps}
use Rattle.overlay_plane.proofs.Entries.{all_of_entries}
use Rattle.overlay_plane.proofs.AtNodes.{no_way_back}
use Rattle.overlay_plane.proofs.LeadingOn.{has_one_next}
use Rattle.overlay_plane.proofs.ItemsRound.{item_round-whole, item_round-round, item_round-within, item_round-next}
use Rattle.overlay_plane.proofs.ItemsRound.{Contains-item_round, place_of}

module _ (steps : List Step) (hand : Hand) (walk : List Step) (orbit : IsOrbit steps hand walk) where
  -- round the walk each step is followed by its next step
  pub goes_on_round : (k : ℕ) → IsNextStep steps hand (step_round walk k) (step_round walk (suc k))
  goes_on_round k =
      let one_more : k + 1 ≡ suc k = omega arith in
      let within = orbit.goes_on (k % length walk) (mod_below k (length walk) orbit.some) in
      let from_k = subst (λ s. IsNextStep steps hand s (step_round walk (k % length walk + 1)))
      (item_round-within walk no_step k) within in
      subst (λ t. IsNextStep steps hand (step_round walk k) t) (item_round-next walk no_step k
      ∙ ap (step_round walk) one_more) from_k

  -- after the last step comes the first
  pub last_to_first : (k : ℕ) → suc k ≡ length walk → IsNextStep steps hand (step_round walk k) (step_round walk 0)
  last_to_first k e = subst (λ t. IsNextStep steps hand (step_round walk k) t) (ap (step_round walk) e
      ∙ item_round-whole walk no_step) (goes_on_round k)

  -- each step of the walk is one of the set
  pub step_inside : (k : ℕ) → Contains steps (step_round walk k)
  step_inside k =
      let some = orbit.some in
      let round : suc (length walk + k - 1) ≡ length walk + k = omega arith in
      subst (λ t. Contains steps t) (ap (step_round walk) round ∙ item_round-round walk no_step k)
      (goes_on_round (length walk + k - 1)).among

  -- a fact that carries over to the next step holds of all steps of the walk, if it holds of one
  pub all_round : (P : Step → Type 0) → ((s t : Step) → Contains steps s → IsNextStep steps hand s t → P s → P t) →
      (s t : Step) → Contains walk s → Contains walk t → P s → P t
  all_round P step s t c d p =
      let from = place_of walk no_step s c in
      let to = place_of walk no_step t d in
      let i = from.0 in
      let j = to.0 in
      let far : (length walk + j - i) + i ≡ length walk + j = let l = from.1 in omega arith in
      subst P (ap (step_round walk) far ∙ item_round-round walk no_step j ∙ to.2)
      (on i (length walk + j - i) (subst P (sym from.2) p))
    where
      on : (i m : ℕ) → P (step_round walk i) → P (step_round walk (m + i))
      on i zero p = let none : i ≡ 0 + i = omega arith in subst (λ k. P (step_round walk k)) none p
      on i (suc m) p = let one_more : suc (m + i) ≡ suc m + i = omega arith in
          subst (λ k. P (step_round walk k)) one_more (step (step_round walk (m + i)) (step_round walk (suc (m + i)))
          (step_inside (m + i)) (goes_on_round (m + i)) (on i m p))

  module _ (leads : LeadsOn steps hand) where
    -- steps at different places are different
    pub apart_before : (i j : ℕ) → i < j → j < length walk → ¬ (step_round walk i ≡ step_round walk j)
    apart_before zero j less h e = orbit.once j less h (sym e)
    apart_before (suc i) zero less h e = omega arith
    apart_before (suc i) (suc j) less h e = apart_before i j (omega arith) (omega arith)
        (leads.apart (step_round walk i) (step_round walk j) (step_round walk (suc i)) (step_inside i) (step_inside j)
        (goes_on_round i) (subst (λ t. IsNextStep steps hand (step_round walk j) t) (sym e) (goes_on_round j)))

    pub once_each : (i j : ℕ) → i < length walk → j < length walk → step_round walk i ≡ step_round walk j → i ≡ j
    once_each i j h k e = ⊎_elim (λ same. same) (λ either. ⊎_elim (λ less. absurd (apart_before i j less k e))
        (λ more. absurd (apart_before j i more h (sym e))) either) (cases_order i j)

    -- the walk holds the next step of each of its steps
    pub next_in_walk : (s t : Step) → IsNextStep steps hand s t → Contains walk s → Contains walk t
    next_in_walk s t next c =
        let at = place_of walk no_step s c in
        let here = subst (λ w. IsNextStep steps hand w t) (sym at.2) next in
        subst (λ w. Contains walk w) (has_one_next steps hand leads (step_round walk at.0) (step_round walk (suc at.0))
        t (step_inside at.0) (goes_on_round at.0) here) (Contains-item_round walk no_step (suc at.0) orbit.some)

    -- the walk contains the step before each of them
    pub step_before_in_walk : (s t : Step) → Contains steps s → IsNextStep steps hand s t → Contains walk t →
        Contains walk s
    step_before_in_walk s t inside next c =
        let at = place_of walk no_step t c in
        let some = orbit.some in
        let round : suc (length walk + at.0 - 1) ≡ length walk + at.0 = omega arith in
        let last = length walk + at.0 - 1 in
        let to_t = subst (λ w. IsNextStep steps hand (step_round walk last) w) (ap (step_round walk) round
        ∙ item_round-round walk no_step at.0 ∙ at.2) (goes_on_round last) in
        subst (λ w. Contains walk w) (leads.apart (step_round walk last) s t (step_inside last) inside to_t next)
        (Contains-item_round walk no_step last orbit.some)

  -- an orbit has three steps or more
  pub three_steps : Alternates steps → 3 ≤ length walk
  three_steps alternates = ⊎_elim (λ few. absurd (against few)) (λ enough. enough) (cases_lt (length walk) 3)
    where
      first_long : ¬ ((step_round walk 0).from ≡ (step_round walk 0).to)
      first_long = alternates.long (step_round walk 0) (step_inside 0)

      against : length walk < 3 → ⊥
      against few = ⊎_elim (λ one. first_long (last_to_first 0 (sym one)).leaves)
          (λ two. no_way_back steps alternates (step_round walk 0) (step_round walk 1) (step_inside 0) (step_inside 1)
          (last_to_first 1 (sym two)).leaves (sym (goes_on_round 0).leaves)) counted
        where
          counted : (length walk ≡ 1) ⊎ (length walk ≡ 2)
          counted = ⊎_elim (λ less. inl (let some = orbit.some in omega arith)) (λ more. inr (omega arith))
              (cases_lt (length walk) 2)

-- the laws together
pub orbits_are_cycles : OrbitsAreCycles
orbits_are_cycles steps hand leads walk orbit = record {
  inside = all_of_entries (λ s. Contains steps s) walk (λ s c. let at = place_of walk no_step s c in
      subst (λ w. Contains steps w) at.2 (step_inside steps hand walk orbit at.0));
  once_each = once_each steps hand walk orbit leads;
  closed = λ s t c next. (
    next_in_walk steps hand walk orbit leads s t next,
    step_before_in_walk steps hand walk orbit
        leads s t c next,
  );
}

-- for each orbit
pub orbits_have_three_steps : OrbitsHaveThreeSteps
orbits_have_three_steps steps alternates hand walk orbit = three_steps steps hand walk orbit alternates
