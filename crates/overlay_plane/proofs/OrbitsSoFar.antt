-- A walk along an orbit comes to no step twice before it comes to its first step again. So it is at most as long as the
-- set, and closes to the orbit.
use Rattle.std.proofs.Common.{◌≡◌, ◌≢◌, ⊎_elim, ℕ, zero, suc, ◌+◌, ◌-◌, ◌%◌, ◌<◌, ◌≤◌, List, [], ◌∷◌, ◌++◌, length}
use Rattle.std.proofs.Common.{Contains, refl, sym, ap, ◌∙◌, subst, arith}
use Rattle.std.proofs.lemmas.Bool.{cases_lt, cases_order}
use Rattle.std.proofs.lemmas.Nat.{mod_below}
use Rattle.std.proofs.lemmas.List.{length_push, get_or_append_left, get_or_push}
use Rattle.overlay_geom.specs.Plane.{Step}
use Rattle.overlay_plane.specs.Turn.{Hand, IsNextStep, step_round, IsOrbit, no_step}
use Rattle.overlay_plane.specs.NextSteps.{LeadsOn}
use Rattle.overlay_plane.specs.OrbitsSoFar.{IsOrbitSoFar, last_of, OrbitsGrow}
use Rattle.overlay_plane.proofs.Pigeonhole.{Twice, pigeonhole}
use Rattle.overlay_plane.proofs.ItemsRound.{item_round-here, item_round-whole, item_round-within, place_of, one_place}

module _ (steps : List Step) (hand : Hand) (leads : LeadsOn steps hand) (walk : List Step)
    (far : IsOrbitSoFar steps hand walk) where
  -- each step but the last is followed by its next step
  followed : (k : ℕ) → suc k < length walk → IsNextStep steps hand (step_round walk k) (step_round walk (suc k))
  followed k h = let one_more : k + 1 ≡ suc k = omega arith in
      subst (λ j. IsNextStep steps hand (step_round walk k) (step_round walk j)) one_more (far.goes_on k (omega arith))

  inside_here : (k : ℕ) → k < length walk → Contains steps (step_round walk k)
  inside_here zero h = far.inside
  inside_here (suc k) h = (followed k h).among

  -- each step is one of the set
  inside_round : (k : ℕ) → Contains steps (step_round walk k)
  inside_round k = subst (λ t. Contains steps t) (item_round-within walk no_step k)
      (inside_here (k % length walk) (mod_below k (length walk) far.some))

  -- steps at different places are different
  apart_so_far : (i j : ℕ) → i < j → j < length walk → ¬ (step_round walk i ≡ step_round walk j)
  apart_so_far zero j less h e = far.once j less h (sym e)
  apart_so_far (suc i) zero less h e = omega arith
  apart_so_far (suc i) (suc j) less h e = apart_so_far i j (omega arith) (omega arith)
      (leads.apart (step_round walk i) (step_round walk j) (step_round walk (suc i)) (inside_round i) (inside_round j)
      (followed i (omega arith)) (subst (λ t. IsNextStep steps hand (step_round walk j) t) (sym e) (followed j h)))

  once_so_far : (i j : ℕ) → i < length walk → j < length walk → step_round walk i ≡ step_round walk j → i ≡ j
  once_so_far i j h k e = ⊎_elim (λ same. same) (λ either. ⊎_elim (λ less. absurd (apart_so_far i j less k e))
      (λ more. absurd (apart_so_far j i more h (sym e))) either) (cases_order i j)

  -- a walk longer than the set would come to a step twice
  few : length walk ≤ length steps
  few = ⊎_elim (λ many. absurd (against many
      (pigeonhole (length steps) (λ k. (inside_round k).0) (λ k h. (inside_round k).1)))) (λ enough. enough)
      (cases_lt (length steps) (length walk))
    where
      against : length steps < length walk → Twice (length steps) (λ k. (inside_round k).0) → ⊥
      against many (i, j, less, most, same) = apart_so_far i j less (omega arith)
          (one_place steps (step_round walk i) (step_round walk j) (inside_round i) (inside_round j) same)

  -- the next step is the first, or one that the walk has not come to
  comes_to_new : (t : Step) → IsNextStep steps hand (last_of walk) t → Contains walk t → t ≡ step_round walk 0
  comes_to_new t next c = by (place_of walk no_step t c)
    where
      by : (k : ℕ) × (k < length walk) × (step_round walk k ≡ t) → t ≡ step_round walk 0
      by (zero, h, e) = sym e
      by (suc k, h, e) = absurd (apart_so_far k (length walk - 1) (omega arith) (let some = far.some in omega arith)
          (leads.apart (step_round walk k) (last_of walk) t (inside_round k) (inside_round (length walk - 1))
          (subst (λ w. IsNextStep steps hand (step_round walk k) w) e (followed k h)) next))

  -- where it is the first, the walk is the orbit
  closes : IsNextStep steps hand (last_of walk) (step_round walk 0) → IsOrbit steps hand walk
  closes next = record {
    some = far.some;
    goes_on = λ k h. ⊎_elim (λ less. far.goes_on k less) (λ end. at_end k h end) (cases_lt (k + 1) (length walk));
    once = far.once;
  }
    where
      at_end : (k : ℕ) → k < length walk → length walk ≤ k + 1 → IsNextStep steps hand (step_round walk k)
          (step_round walk (k + 1))
      at_end k h end =
          let whole : length walk ≡ k + 1 = omega arith in
          let last : length walk - 1 ≡ k = omega arith in
          subst (λ t. IsNextStep steps hand (step_round walk k) t) (sym (item_round-whole walk no_step)
          ∙ ap (step_round walk) whole) (subst (λ j. IsNextStep steps hand (step_round walk j) (step_round walk 0))
          last next)

  -- otherwise the walk grows by it
  grows : (t : Step) → IsNextStep steps hand (last_of walk) t → t ≢ step_round walk 0 →
      IsOrbitSoFar steps hand (walk ++ t ∷ [])
  grows t next other = record {
    some = let l = longer in omega arith;
    inside = subst (λ s. Contains steps s) (sym (before 0 far.some)) far.inside;
    goes_on = λ k h. ⊎_elim (λ less. subst (λ s. IsNextStep steps hand s (step_round (walk ++ t ∷ []) (k + 1)))
        (sym (before k (omega arith))) (subst (λ s. IsNextStep steps hand (step_round walk k) s)
        (sym (before (k + 1) less)) (far.goes_on k less))) (λ end. at_end k (let l = longer in omega arith))
        (cases_lt (k + 1) (length walk));
    once = λ k positive h e. ⊎_elim (λ less. far.once k positive less (sym (before k less) ∙ e ∙ before 0 far.some))
        (λ end. let here : k ≡ length walk = let l = longer in omega arith in
        other (sym at_new ∙ ap (step_round (walk ++ t ∷ [])) (sym here) ∙ e ∙ before 0 far.some))
        (cases_lt k (length walk));
  }
    where
      longer : length (walk ++ t ∷ []) ≡ length walk + 1
      longer = length_push walk t

      before : (k : ℕ) → k < length walk → step_round (walk ++ t ∷ []) k ≡ step_round walk k
      before k h = item_round-here (walk ++ t ∷ []) no_step k (let l = longer in omega arith)
          ∙ get_or_append_left walk (t ∷ []) no_step k h ∙ sym (item_round-here walk no_step k h)

      at_new : step_round (walk ++ t ∷ []) (length walk) ≡ t
      at_new = item_round-here (walk ++ t ∷ []) no_step (length walk) (let l = longer in omega arith)
          ∙ get_or_push walk t no_step (length walk) refl

      at_end : (k : ℕ) → k + 1 ≡ length walk → IsNextStep steps hand (step_round (walk ++ t ∷ []) k)
          (step_round (walk ++ t ∷ []) (k + 1))
      at_end k e =
          let last : length walk - 1 ≡ k = omega arith in
          let from_last = subst (λ j. IsNextStep steps hand (step_round walk j) t) last next in
          let from_k = subst (λ s. IsNextStep steps hand s t) (sym (before k (omega arith))) from_last in
          subst (λ s. IsNextStep steps hand (step_round (walk ++ t ∷ []) k) s)
          (sym at_new ∙ ap (step_round (walk ++ t ∷ [])) (sym e)) from_k

-- the laws together
pub orbits_grow : OrbitsGrow
orbits_grow = record {
  begins = λ steps hand s c. record {
    some = omega arith;
    inside = c;
    goes_on = λ k h. absurd (omega arith);
    once = λ k positive h e. omega arith;
  };
  goes_round = λ steps hand leads walk far. record {
    inside = inside_round steps hand leads walk far;
    once_each = once_so_far steps hand leads walk far;
    few = few steps hand leads walk far;
    comes_to_new = comes_to_new steps hand leads walk far;
    closes = closes steps hand leads walk far;
    grows = grows steps hand leads walk far;
  };
}
