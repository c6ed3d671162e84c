-- A mark that is set takes one step out of the steps left, if each occurs once.
use Rattle.std.proofs.Common.{◌≡◌, ℕ, zero, suc, ◌<◌, Bool, true, false, cond, not, ◌||◌, List, [], ◌∷◌, length, refl}
use Rattle.std.proofs.Common.{sym, ap, ◌∙◌, arith}
use Rattle.std.specs.Prelude.{Contains, set}
use Rattle.std.proofs.lemmas.Bool.{both_ways}
use Rattle.overlay_geom.specs.Plane.{Step, step_eq}
use Rattle.overlay_geom.proofs.Entries.{Contains-head, Contains-later}
use Rattle.overlay_plane.specs.Contours.{without}
use Rattle.overlay_plane.specs.Orbits.{is_step_of}
use Rattle.overlay_plane.proofs.AtNodes.{equal_steps, step_eq-flip}
use Rattle.overlay_plane.proofs.LaterEntries.{Each}
use Rattle.overlay_plane.proofs.ShuffledSteps.{Differ}
use Rattle.overlay_walk.specs.Places.{is_open, step_at}
use Rattle.overlay_walk.specs.Steps.{unmarked}
use Rattle.overlay_walk.proofs.OpenPlaces.{unmarked_at}

-- a single step leaves out exactly that step
alone : (s t : Step) (b : Bool) → step_eq s t ≡ b → is_step_of (s ∷ []) t ≡ b
alone s t true e = ap (λ c. c || false) e
alone s t false e = ap (λ c. c || false) e

-- where all steps differ from one, leaving it out changes nothing
without_others : (s : Step) (ss : List Step) → ((t : Step) → Contains ss t → step_eq s t ≡ false) →
    without ss (s ∷ []) ≡ ss
without_others s [] other = refl
without_others s (t ∷ ts) other =
    ap (λ b. cond (not b) (t ∷ without ts (s ∷ [])) (without ts (s ∷ [])))
    (alone s t false (other t (Contains-head t ts)))
    ∙ ap (λ us. t ∷ us) (without_others s ts (λ u c. other u (Contains-later t ts u c)))

-- the steps left after one more is marked are those left before, without it
pub unmarked-set : (ss : List Step) (ms : List Bool) (k : ℕ) → length ms ≡ length ss → k < length ss →
    is_open ms k ≡ true → Each Differ (unmarked ss ms) →
    unmarked ss (set ms k true) ≡ without (unmarked ss ms) (step_at ss k ∷ [])
unmarked-set [] ms k same h at once = absurd (elim h [ ])
unmarked-set (s ∷ ss) [] k same h at once = absurd (omega arith)
unmarked-set (s ∷ ss) (true ∷ ms) zero same h at once = absurd (both_ways false refl at)
unmarked-set (s ∷ ss) (false ∷ ms) zero same h at once =
    sym (ap (λ b. cond (not b) (s ∷ without (unmarked ss ms) (s ∷ [])) (without (unmarked ss ms) (s ∷ [])))
    (alone s s true (equal_steps s s refl))
    ∙ without_others s (unmarked ss ms) once.0)
unmarked-set (s ∷ ss) (true ∷ ms) (suc k) same h at once = unmarked-set ss ms k (omega arith) (omega arith) at once
unmarked-set (s ∷ ss) (false ∷ ms) (suc k) same h at once =
    let t = step_at ss k in
    let other = step_eq-flip s t (once.0 t (unmarked_at ss ms _ k (omega arith) (omega arith) at)) in
    ap (λ us. s ∷ us) (unmarked-set ss ms k (omega arith) (omega arith) at once.1)
    ∙ sym (ap (λ b. cond (not b) (s ∷ without (unmarked ss ms) (t ∷ [])) (without (unmarked ss ms) (t ∷ [])))
    (alone t s false other))
