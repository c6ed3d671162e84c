-- An orbit is a closed contour: each of its steps ends where the next begins, and the last where the first does, so
-- they are the steps of its points.
use Rattle.std.proofs.Common.{◌≡◌, ℕ, suc, ◌+◌, ◌<◌, Bool, true, false, cond, ◌++◌, List, [], ◌∷◌, length}
use Rattle.std.proofs.Common.{map, get_or, Contains, refl, sym, ap, ap₂, ◌∙◌, subst, arith}
use Rattle.std.proofs.lemmas.List.Elements.{All-nil, All-cons}
use Rattle.overlay_geom.specs.Plane.{Point, Step, point_eq, steps_between, steps_through, steps_of, points_of}
use Rattle.overlay_geom.proofs.Orders.{point_eq-same}
use Rattle.overlay_plane.specs.Turn.{Hand, step_round, IsOrbit, no_step}
use Rattle.overlay_plane.specs.Alternates.{Alternates}
use Rattle.overlay_plane.specs.Contours.{without, done, next, IsContour, OrbitsAreContours, CutsAreContours}
use Rattle.overlay_plane.proofs.BalancedSteps.{orbits_have_each_once}
use Rattle.overlay_plane.proofs.CutWalks.{left_alternates}
use Rattle.overlay_plane.proofs.ItemsRound.{item_round-here, item_round-whole}
use Rattle.overlay_plane.proofs.NextSteps.{alternating_steps_lead_on}
use Rattle.overlay_plane.proofs.OrbitSteps.{goes_on_round, step_inside, three_steps}

-- from s through the steps after it to q: each step is one between two points, and the next begins where it ends
abbrev LeadsTo : Step → List Step → Point → Type 0
LeadsTo s [] q = (¬ (s.from ≡ s.to)) × (s.to ≡ q)
LeadsTo s (t ∷ ts) q = (¬ (s.from ≡ s.to)) × (s.to ≡ t.from) × LeadsTo t ts q

-- the step between the ends of a step
one_step : (s : Step) (q : Point) → ¬ (s.from ≡ s.to) → s.to ≡ q → steps_between s.from q ≡ s ∷ []
one_step s q long ends = subst (λ p. steps_between s.from p ≡ s ∷ []) ends (by (point_eq s.from s.to) refl)
  where
    by : (t : Bool) → point_eq s.from s.to ≡ t → cond t [] (record { from = s.from; to = s.to } ∷ []) ≡ s ∷ []
    by true e = absurd (long (point_eq-same s.from s.to e))
    by false e = refl

-- the steps through the points of such a walk are the walk
through_points : (s : Step) (ss : List Step) (q : Point) → LeadsTo s ss q →
    steps_through s.from (map (λ t. t.from) ss ++ q ∷ []) ≡ s ∷ ss
through_points s [] q h = ap (λ ts. ts ++ []) (one_step s q h.0 h.1)
through_points s (t ∷ ts) q h = ap₂ (λ a b. a ++ b) (one_step s t.from h.0 h.1) (through_points t ts q h.2)

-- by the places of its steps
leads_to_by_places : (s : Step) (ss : List Step) (q : Point) → ((k : ℕ) → k < length (s ∷ ss) →
    ¬ ((get_or (s ∷ ss) k no_step).from ≡ (get_or (s ∷ ss) k no_step).to)) →
    ((k : ℕ) → k < length ss → (get_or (s ∷ ss) k no_step).to ≡ (get_or ss k no_step).from) →
    (get_or (s ∷ ss) (length ss) no_step).to ≡ q → LeadsTo s ss q
leads_to_by_places s [] q long on end = (long 0 (omega arith), end)
leads_to_by_places s (t ∷ ts) q long on end = (
  long 0 (omega arith),
  on 0 (omega arith),
  leads_to_by_places t ts q (λ k h. long (suc k) (omega arith)) (λ k h. on (suc k) (omega arith)) end,
)

module _ (steps : List Step) (alternates : Alternates steps) (hand : Hand) where
  -- the steps of the points of an orbit are the orbit
  orbit_whole : (walk : List Step) → IsOrbit steps hand walk → steps_of (points_of walk) ≡ walk
  orbit_whole [] orbit = refl
  orbit_whole (s ∷ ss) orbit = through_points s ss s.from (leads_to_by_places s ss s.from long on end)
    where
      at : (k : ℕ) → k < length (s ∷ ss) → step_round (s ∷ ss) k ≡ get_or (s ∷ ss) k no_step
      at k h = item_round-here (s ∷ ss) no_step k h

      long : (k : ℕ) → k < length (s ∷ ss) → ¬ ((get_or (s ∷ ss) k no_step).from ≡ (get_or (s ∷ ss) k no_step).to)
      long k h = alternates.long (get_or (s ∷ ss) k no_step)
          (subst (λ t. Contains steps t) (at k h) (step_inside steps hand (s ∷ ss) orbit k))

      leads : (k : ℕ) → (step_round (s ∷ ss) k).to ≡ (step_round (s ∷ ss) (suc k)).from
      leads k = sym (goes_on_round steps hand (s ∷ ss) orbit k).leaves

      on : (k : ℕ) → k < length ss → (get_or (s ∷ ss) k no_step).to ≡ (get_or ss k no_step).from
      on k h = ap (λ t. t.to) (sym (at k (omega arith))) ∙ leads k ∙ ap (λ t. t.from) (at (suc k) (omega arith))

      end : (get_or (s ∷ ss) (length ss) no_step).to ≡ s.from
      end = ap (λ t. t.to) (sym (at (length ss) (omega arith))) ∙ leads (length ss)
          ∙ ap (λ t. t.from) (item_round-whole (s ∷ ss) no_step ∙ at 0 (omega arith))

  -- an orbit is a contour
  orbit_is_contour : (walk : List Step) → IsOrbit steps hand walk → IsContour walk
  orbit_is_contour walk orbit = record {
    three = three_steps steps hand walk orbit alternates;
    leads_on = λ k. let one_more : k + 1 ≡ suc k = omega arith in ap (λ j. (step_round walk j).from) one_more
        ∙ (goes_on_round steps hand walk orbit k).leaves;
    once = orbits_have_each_once steps hand (alternating_steps_lead_on steps alternates hand) walk orbit;
    whole = orbit_whole walk orbit;
  }

-- the laws
pub orbits_are_contours : OrbitsAreContours
orbits_are_contours steps alternates hand walk orbit = orbit_is_contour steps alternates hand walk orbit

pub cuts_are_contours : CutsAreContours
cuts_are_contours hand_of steps alternates walks done = All-nil IsContour
cuts_are_contours hand_of steps alternates walks (next {s} {ss} {rest} start orbit cut) =
    All-cons IsContour (s ∷ ss) rest (orbit_is_contour steps alternates (hand_of s) (s ∷ ss) orbit)
    (cuts_are_contours hand_of (without steps (s ∷ ss)) (left_alternates steps alternates (hand_of s) (s ∷ ss) orbit)
    rest cut)
