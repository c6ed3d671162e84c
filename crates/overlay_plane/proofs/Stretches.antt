-- A stretch of an orbit: a number of steps from a place on. The rises of a number given to each point telescope along
-- it.
use Rattle.std.proofs.Common.{◌≡◌, ⊎_elim, ℕ, zero, suc, ◌+◌, ◌<◌, ◌≤◌, ℤ, ◌-ℤ◌, List, [], ◌∷◌, length, Contains, sym}
use Rattle.std.proofs.Common.{ap, ◌∙◌, subst, arith}
use Rattle.std.proofs.lemmas.Bool.{false_from_ne_true}
use Rattle.overlay_geom.specs.Plane.{Point, Step, step_eq, total}
use Rattle.overlay_geom.proofs.Signs.{linear}
use Rattle.overlay_plane.specs.Turn.{Hand, step_round, IsOrbit}
use Rattle.overlay_plane.specs.NextSteps.{LeadsOn}
use Rattle.overlay_plane.proofs.AtNodes.{same_steps}
use Rattle.overlay_plane.proofs.LaterEntries.{Contains-cases, Each}
use Rattle.overlay_plane.proofs.OrbitSteps.{goes_on_round, once_each}
use Rattle.overlay_plane.proofs.ShuffledSteps.{Differ}
use Rattle.overlay_plane.proofs.Telescopes.{signed_rise, signed_rise-is}
use Rattle.overlay_plane.proofs.Totals.{Contains-head, Contains-later}

-- the n steps of a closed walk from the place k on
abbrev pub stretch : List Step → ℕ → ℕ → List Step
stretch walk k zero = []
stretch walk k (suc n) = step_round walk k ∷ stretch walk (suc k) n

-- each of its steps stands at one of these places
pub place_in_stretch : (walk : List Step) (k n : ℕ) (s : Step) → Contains (stretch walk k n) s →
    (i : ℕ) × (k ≤ i) × (i < k + n) × (step_round walk i ≡ s)
place_in_stretch walk k zero s c = elim c.1 [ ]
place_in_stretch walk k (suc n) s c = ⊎_elim
    (λ is. (k, omega arith, omega arith, is))
    (λ later. let at = place_in_stretch walk (suc k) n s later in let from = at.1 in let to = at.2 in
    (at.0, omega arith, omega arith, at.3))
    (Contains-cases (step_round walk k) (stretch walk (suc k) n) s c)

-- its last step is one of them
pub last_in_stretch : (walk : List Step) (k n : ℕ) → Contains (stretch walk k (suc n)) (step_round walk (k + n))
last_in_stretch walk k zero =
    let none : k ≡ k + 0 = omega arith in
    subst (λ i. Contains (stretch walk k 1) (step_round walk i)) none (Contains-head (step_round walk k) [])
last_in_stretch walk k (suc n) =
    let one_more : suc k + n ≡ k + suc n = omega arith in
    subst (λ i. Contains (stretch walk k (suc (suc n))) (step_round walk i)) one_more
    (Contains-later (step_round walk k) (stretch walk (suc k) (suc n)) (step_round walk (suc k + n))
    (last_in_stretch walk (suc k) n))

module _ (steps : List Step) (hand : Hand) (walk : List Step) (orbit : IsOrbit steps hand walk) where
  -- a number given to each point rises from its start to its end
  pub stretch_rises : (g : Point → ℤ) (k n : ℕ) → total (signed_rise g) (stretch walk k n) ≡ g
      (step_round walk (k + n)).from -ℤ g (step_round walk k).from
  stretch_rises g k zero =
      let none : k + 0 ≡ k = omega arith in
      let same = ap (λ i. g (step_round walk i).from) none in
      omega linear
  stretch_rises g k (suc n) =
      let one_more : suc k + n ≡ k + suc n = omega arith in
      let last = ap (λ i. g (step_round walk i).from) one_more in
      let rest = stretch_rises g (suc k) n in
      let first = signed_rise-is g (step_round walk k) in
      let meet = ap g (goes_on_round steps hand walk orbit k).leaves in
      omega linear

  -- no step stands twice in it, if it is no longer than the orbit
  pub stretch_once : LeadsOn steps hand → (k n : ℕ) → k + n ≤ length walk → Each Differ (stretch walk k n)
  stretch_once leads k zero h = tt
  stretch_once leads k (suc n) h = (first, stretch_once leads (suc k) n (omega arith))
    where
      first : (s : Step) → Contains (stretch walk (suc k) n) s → Differ (step_round walk k) s
      first s c =
          let at = place_in_stretch walk (suc k) n s c in
          let from = at.1 in
          let to = at.2 in
          false_from_ne_true (step_eq (step_round walk k) s)
          (λ same. let one = once_each steps hand walk orbit leads k at.0 (omega arith) (omega arith)
          (same_steps (step_round walk k) s same ∙ sym at.3) in absurd (omega arith))
