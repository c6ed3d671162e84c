-- A step has one orbit, and orbits that share a step have equal steps. The steps left by an orbit lead on, or
-- alternate, with orbits of the whole set.
use Rattle.std.proofs.Common.{◌≡◌, ⊎_elim, ℕ, zero, suc, ◌+◌, ◌<◌, Bool, not, List, [], ◌∷◌, length, Contains, filter}
use Rattle.std.proofs.Common.{sym, ◌∙◌, subst, arith}
use Rattle.std.specs.Bool.{Decides}
use Rattle.std.proofs.lemmas.Bool.{false≢true, cases_order, or_cases, or_left, or_right}
use Rattle.std.proofs.lemmas.List.{ext_get_or}
use Rattle.overlay_geom.specs.Plane.{Step, step_eq}
use Rattle.overlay_plane.specs.Turn.{Hand, IsNextStep, step_round, IsOrbit, no_step}
use Rattle.overlay_plane.specs.NextSteps.{LeadsOn, IsClosedUnderNext}
use Rattle.overlay_plane.specs.Orbits.{is_step_of, OrbitsAreUnique, OrbitsAreApart, OrbitsAreClosed, OrbitsLeaveTheRest}
use Rattle.overlay_plane.specs.Orbits.{OrbitsOfTheRest}
use Rattle.overlay_plane.proofs.Tests.{same_tests}
use Rattle.overlay_plane.proofs.Totals.{Contains-head, Contains-later}
use Rattle.overlay_plane.proofs.LaterEntries.{Contains-cases}
use Rattle.overlay_plane.proofs.AtNodes.{same_steps, equal_steps}
use Rattle.overlay_plane.proofs.LeadingOn.{has_one_next, closed_parts_lead_on}
use Rattle.overlay_plane.proofs.NextSteps.{leads_on}
use Rattle.overlay_plane.proofs.ClosedParts.{closed_parts_alternate}
use Rattle.overlay_plane.proofs.ItemsRound.{item_round-here, item_round-whole}
use Rattle.overlay_plane.proofs.OrbitSteps.{goes_on_round, step_inside, all_round, next_in_walk, step_before_in_walk}

module _ (steps : List Step) (hand : Hand) (leads : LeadsOn steps hand) where
  -- orbits from one step go on alike
  same_at : (walk other : List Step) → IsOrbit steps hand walk → IsOrbit steps hand other →
      step_round walk 0 ≡ step_round other 0 → (k : ℕ) → step_round walk k ≡ step_round other k
  same_at walk other orbit orbit' e zero = e
  same_at walk other orbit orbit' e (suc k) = has_one_next steps hand leads (step_round walk k)
      (step_round walk (suc k)) (step_round other (suc k)) (step_inside steps hand walk orbit k)
      (goes_on_round steps hand walk orbit k) (subst (λ s. IsNextStep steps hand s (step_round other (suc k)))
      (sym (same_at walk other orbit orbit' e k)) (goes_on_round steps hand other orbit' k))

  -- neither ends before the other
  not_shorter : (walk other : List Step) → IsOrbit steps hand walk → IsOrbit steps hand other →
      step_round walk 0 ≡ step_round other 0 → ¬ (length walk < length other)
  not_shorter walk other orbit orbit' e less = orbit'.once (length walk) orbit.some less
      (sym (same_at walk other orbit orbit' e (length walk)) ∙ item_round-whole walk no_step ∙ e)

  -- they are one walk
  one_orbit : (walk other : List Step) → IsOrbit steps hand walk → IsOrbit steps hand other →
      step_round walk 0 ≡ step_round other 0 → walk ≡ other
  one_orbit walk other orbit orbit' e = ext_get_or no_step walk other lengths
      (λ i h. sym (item_round-here walk no_step i h) ∙ same_at walk other orbit orbit' e i
      ∙ item_round-here other no_step i (let l = lengths in omega arith))
    where
      lengths : length walk ≡ length other
      lengths = ⊎_elim (λ same. same) (λ either. ⊎_elim (λ less. absurd (not_shorter walk other orbit orbit' e less))
          (λ more. absurd (not_shorter other walk orbit' orbit (sym e) more)) either)
          (cases_order (length walk) (length other))

  -- an orbit that shares a step with another orbit contains all its steps
  holds_all : (walk other : List Step) → IsOrbit steps hand walk → IsOrbit steps hand other →
      (s : Step) → Contains walk s → Contains other s → (t : Step) → Contains walk t → Contains other t
  holds_all walk other orbit orbit' s in_walk in_other t c = all_round steps hand walk orbit (λ w. Contains other w)
      (λ w u inside next h. next_in_walk steps hand other orbit' leads w u next h) s t in_walk c in_other

  -- a test of the steps of an orbit is closed under next
  pub orbit_is_closed : (walk : List Step) → IsOrbit steps hand walk → (taken : Step → Bool) →
      ((s : Step) → Decides (taken s) (Contains walk s)) → IsClosedUnderNext steps hand taken
  orbit_is_closed walk orbit taken decides s t inside next = same_tests (taken s) (taken t)
      (λ e. (decides t).1 (next_in_walk steps hand walk orbit leads s t next ((decides s).0 e)))
      (λ e. (decides s).1 (step_before_in_walk steps hand walk orbit leads s t inside next ((decides t).0 e)))

-- the test for a walk's steps
pub is_step_of_decides : (walk : List Step) (s : Step) → Decides (is_step_of walk s) (Contains walk s)
is_step_of_decides [] s = ((λ e. absurd (false≢true e)), λ c. absurd (elim c.1 [ ]))
is_step_of_decides (t ∷ ts) s = (
  (λ e. ⊎_elim (λ same. subst (λ w. Contains (t ∷ ts) w) (same_steps t s same) (Contains-head t ts))
      (λ rest. Contains-later t ts s ((is_step_of_decides ts s).0 rest)) (or_cases (step_eq t s) (is_step_of ts s) e)),
  λ c. ⊎_elim (λ same. or_left (step_eq t s) (is_step_of ts s) (equal_steps t s same))
      (λ later. or_right (step_eq t s) (is_step_of ts s) ((is_step_of_decides ts s).1 later)) (Contains-cases t ts s c),
)

-- a step has one orbit
pub orbits_are_unique : OrbitsAreUnique
orbits_are_unique steps hand leads walk other = one_orbit steps hand leads walk other

-- orbits that share a step have the same steps
pub orbits_are_apart : OrbitsAreApart
orbits_are_apart steps hand leads walk other orbit orbit' s in_walk in_other t = (
  holds_all steps hand leads walk other orbit orbit' s in_walk in_other t,
  holds_all steps hand leads other walk
      orbit' orbit s in_other in_walk t,
)

-- a test of the steps of an orbit is closed
pub orbits_are_closed : OrbitsAreClosed
orbits_are_closed steps hand leads walk orbit test decides = orbit_is_closed steps hand leads walk orbit test decides

-- the steps left by an orbit alternate
pub orbits_leave_the_rest : OrbitsLeaveTheRest
orbits_leave_the_rest steps alternates hand walk orbit taken decides =
    let closed = orbit_is_closed steps hand (leads_on steps alternates hand) walk orbit taken decides in
    (closed, closed_parts_alternate steps alternates hand taken closed)

-- an orbit of the steps that closed parts leave is an orbit of the whole set
pub orbits_of_the_rest : OrbitsOfTheRest
orbits_of_the_rest steps hand leads taken closed walk orbit = record {
  some = orbit.some;
  goes_on = λ k h. ((closed_parts_lead_on steps hand leads taken closed).rest_next (step_round walk k)
      (step_round walk (k + 1)) (step_inside (filter (λ s. not (taken s)) steps) hand walk orbit k)).0
      (orbit.goes_on k h);
  once = orbit.once;
}
