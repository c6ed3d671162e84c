-- From each step of a set that leads on, following the next steps by a hand leads back to it. The set is finite, so
-- some step comes twice. No two steps have one next step, so the first to come twice is the start.
use Rattle.std.proofs.Common.{◌≡◌, ⊎_elim, ℕ, zero, suc, ◌+◌, ◌-◌, ◌<◌, false, List, length, map, Contains, sym, ap}
use Rattle.std.proofs.Common.{◌∙◌, subst, arith}
use Rattle.std.specs.List.{range_with_len}
use Rattle.std.proofs.lemmas.Bool.{both_ways, cases_lt}
use Rattle.std.proofs.lemmas.List.FromFn.{length-map-range_with_len, get_or-map-range_with_len}
use Rattle.overlay_geom.specs.Plane.{Step, step_eq}
use Rattle.overlay_plane.specs.Turn.{Hand, IsNextStep, step_round, IsOrbit, no_step}
use Rattle.overlay_plane.specs.NextSteps.{LeadsOn}
use Rattle.overlay_plane.specs.Orbits.{OrbitsExist}
use Rattle.overlay_plane.proofs.AtNodes.{same_steps, equal_steps}
use Rattle.overlay_plane.proofs.LeadingOn.{has_next}
use Rattle.overlay_plane.proofs.Pigeonhole.{IsFirst, first_below, Twice, pigeonhole}
use Rattle.overlay_plane.proofs.ItemsRound.{item_round-here, item_round-whole, one_place}

module _ (steps : List Step) (hand : Hand) (leads : LeadsOn steps hand) (s : Step) (inside : Contains steps s) where
  -- the step that k next steps from s lead to
  abbrev reached : ℕ → (t : Step) × Contains steps t
  reached zero = (s, inside)
  reached (suc k) = let next = has_next steps hand leads (reached k).0 (reached k).1 in (next.0, (next.1).among)

  -- that step alone
  abbrev at : ℕ → Step
  at k = (reached k).0

  -- each is followed by its next step
  followed : (k : ℕ) → IsNextStep steps hand (at k) (at (suc k))
  followed k = (has_next steps hand leads (reached k).0 (reached k).1).1

  -- the place of that step in the set
  abbrev place : ℕ → ℕ
  place k = ((reached k).1).0

  -- where a step comes twice, the first comes again as many steps after the start
  comes_again : (i j d : ℕ) → i + d ≡ j → at j ≡ at i → at d ≡ s
  comes_again zero j d e same = let here : d ≡ j = omega arith in ap at here ∙ same
  comes_again (suc i) zero d e same = absurd (omega arith)
  comes_again (suc i) (suc j) d e same = comes_again i j d (omega arith)
      (leads.apart (at j) (at i) (at (suc i)) (reached j).1 (reached i).1
      (subst (λ t. IsNextStep steps hand (at j) t) same (followed j)) (followed i))

  -- the number of steps after which s first comes again, less one
  returns : (k : ℕ) × IsFirst (λ k. step_eq (at (suc k)) s) (length steps) k
  returns = ⊎_elim (λ never. absurd (against never (pigeonhole (length steps) place (λ k h. ((reached k).1).1))))
      (λ some. some) (first_below (λ k. step_eq (at (suc k)) s) (length steps))
    where
      against : ((k : ℕ) → k < length steps → step_eq (at (suc k)) s ≡ false) → Twice (length steps) place → ⊥
      against never (i, zero, less, most, same) = omega arith
      against never (i, suc j, less, most, same) =
          let far : i + suc (j - i) ≡ suc j = omega arith in
          both_ways (step_eq (at (suc (j - i))) s) (never (j - i) (omega arith))
          (equal_steps (at (suc (j - i))) s
          (comes_again i (suc j) (suc (j - i)) far
          (sym (one_place steps (at i) (at (suc j)) (reached i).1 (reached (suc j)).1 same))))

  -- the number of steps after which s first comes again
  abbrev period : ℕ
  period = suc returns.0

  -- the steps up to there
  pub orbit_walk : List Step
  orbit_walk = map at (range_with_len 0 period)

  -- as many as that number
  walk_length : length orbit_walk ≡ period
  unfolding orbit_walk
  walk_length = length-map-range_with_len at 0 period

  -- the step at each place is reached by that number of next steps
  walk_at : (k : ℕ) → k < period → step_round orbit_walk k ≡ at k
  unfolding orbit_walk
  walk_at k h = item_round-here orbit_walk no_step k (let l = walk_length in omega arith)
      ∙ get_or-map-range_with_len at 0 period k k no_step h (omega arith)

  -- they are the orbit of s
  pub walk_is_orbit : IsOrbit steps hand orbit_walk
  walk_is_orbit = record {
    some = let l = walk_length in omega arith;
    goes_on = λ k h. on k (let l = walk_length in omega arith);
    once = λ k positive h e. different k positive (let l = walk_length in omega arith)
        (sym (walk_at k (let l = walk_length in omega arith)) ∙ e ∙ walk_at 0 (omega arith));
  }
    where
      last_again : at period ≡ s
      last_again = same_steps (at period) s (returns.1).passed

      next_at : (k : ℕ) → k < period → step_round orbit_walk (k + 1) ≡ at (suc k)
      next_at k h = ⊎_elim (λ less. let more : k + 1 ≡ suc k = omega arith in
          ap (step_round orbit_walk) more ∙ walk_at (suc k) (omega arith))
          (λ end. let whole : k + 1 ≡ length orbit_walk = let l = walk_length in omega arith in
          let last : suc k ≡ period = omega arith in ap (step_round orbit_walk) whole
          ∙ item_round-whole orbit_walk no_step ∙ walk_at 0 (omega arith) ∙ sym last_again ∙ ap at (sym last))
          (cases_lt (k + 1) period)

      on : (k : ℕ) → k < period → IsNextStep steps hand (step_round orbit_walk k) (step_round orbit_walk (k + 1))
      on k h = subst (λ t. IsNextStep steps hand (step_round orbit_walk k) t) (sym (next_at k h))
          (subst (λ w. IsNextStep steps hand w (at (suc k))) (sym (walk_at k h)) (followed k))

      different : (k : ℕ) → 0 < k → k < period → ¬ (at k ≡ s)
      different zero positive h e = omega arith
      different (suc k) positive h e = both_ways (step_eq (at (suc k)) s) ((returns.1).none_before k (omega arith))
          (equal_steps (at (suc k)) s e)

  -- the steps begin with s
  pub walk_starts : step_round orbit_walk 0 ≡ s
  walk_starts = walk_at 0 (omega arith)

-- for each step of the set
pub orbits_exist : OrbitsExist
orbits_exist steps hand s inside leads = (
  orbit_walk steps hand leads s inside,
  walk_is_orbit steps hand leads s inside,
  walk_starts steps hand leads s inside,
)
