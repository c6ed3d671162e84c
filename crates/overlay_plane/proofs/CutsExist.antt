-- Steps that can be cut have a cut. While steps are left, one of them is the start and has an orbit; the rest after the
-- orbit is smaller and can be cut.
use Rattle.std.proofs.Common.{◌≡◌, ⊎_elim, ℕ, zero, suc, ◌<◌, ◌≤◌, Bool, true, false, cond, not, List, []}
use Rattle.std.proofs.Common.{◌∷◌, length, Contains, filter, refl, sym, ap, ◌∙◌, subst, arith}
use Rattle.std.proofs.lemmas.Bool.{both_ways}
use Rattle.overlay_geom.specs.Plane.{Step}
use Rattle.overlay_plane.specs.Turn.{Hand, step_round, IsOrbit, no_step}
use Rattle.overlay_plane.specs.NextSteps.{LeadsOn}
use Rattle.overlay_plane.specs.Orbits.{is_step_of}
use Rattle.overlay_plane.specs.Contours.{without, IsCutInto, done, next, CanBeCut, CutsExist}
use Rattle.overlay_plane.proofs.CutWalks.{cuts_leave_cuttable}
use Rattle.overlay_plane.proofs.ItemsRound.{item_round-here}
use Rattle.overlay_plane.proofs.LaterEntries.{Contains-cases}
use Rattle.overlay_plane.proofs.LongSteps.{start_exists}
use Rattle.overlay_plane.proofs.OrbitWalks.{orbits_exist}
use Rattle.overlay_plane.proofs.OrbitsApart.{is_step_of_decides}
use Rattle.overlay_plane.proofs.Totals.{Contains-head}

-- a filter keeps at most all entries, and fewer where one of them fails its test
kept_at_most : {X : Type 0} (test : X → Bool) (xs : List X) → length (filter test xs) ≤ length xs
kept_at_most test [] = omega arith
kept_at_most {X} test (x ∷ xs) = by (test x) (kept_at_most test xs)
  where
    by : (t : Bool) → length (filter test xs) ≤ length xs → length (cond t (x ∷ filter test xs) (filter test xs)) ≤ suc
        (length xs)
    by true h = omega arith
    by false h = omega arith

kept_fewer : {X : Type 0} (test : X → Bool) (xs : List X) (x : X) → Contains xs x → test x ≡ false →
    length (filter test xs) < length xs
kept_fewer test [] x c fails = elim c.1 [ ]
kept_fewer {X} test (y ∷ ys) x c fails = ⊎_elim
    (λ is. here (test y) (subst (λ z. test z ≡ false) (sym is) fails) (kept_at_most test ys))
    (λ later. there (test y) (kept_fewer test ys x later fails))
    (Contains-cases y ys x c)
  where
    here : (t : Bool) → t ≡ false → length (filter test ys) ≤ length ys →
        length (cond t (y ∷ filter test ys) (filter test ys)) < suc (length ys)
    here true e h = absurd (both_ways true e refl)
    here false e h = omega arith

    there : (t : Bool) → length (filter test ys) < length ys →
        length (cond t (y ∷ filter test ys) (filter test ys)) < suc (length ys)
    there true h = omega arith
    there false h = omega arith

-- an orbit of a step that is written with this step first
orbit_from : (steps : List Step) (hand : Hand) → LeadsOn steps hand → (s : Step) → Contains steps s →
    (ss : List Step) × IsOrbit steps hand (s ∷ ss)
orbit_from steps hand leads s c = let found = orbits_exist steps hand s c leads in by found.0 found.1 found.2
  where
    by : (walk : List Step) → IsOrbit steps hand walk → step_round walk 0 ≡ s →
        (ss : List Step) × IsOrbit steps hand (s ∷ ss)
    by [] orbit first = absurd (elim orbit.some [ ])
    by (t ∷ ts) orbit first =
        let same : t ≡ s = sym (item_round-here (t ∷ ts) no_step 0 (omega arith)) ∙ first in
        (ts, subst (λ u. IsOrbit steps hand (u ∷ ts)) same orbit)

-- the cut of no more steps than n
cut_of : (hand_of : Step → Hand) (n : ℕ) (steps : List Step) → length steps ≤ n → CanBeCut hand_of steps →
    (walks : List (List Step)) × IsCutInto hand_of steps walks
cut_of hand_of n [] few can = ([], done)
cut_of hand_of zero (s ∷ ss) few can = absurd (elim few [ ])
cut_of hand_of (suc n) (s ∷ ss) few can =
    let long = (cuts_leave_cuttable hand_of (s ∷ ss) can s (Contains-head s ss)).leads_on.long in
    let start = start_exists (s ∷ ss) long s (Contains-head s ss) in
    let cuttable = cuts_leave_cuttable hand_of (s ∷ ss) can start.0 (start.1).among in
    let orbit = orbit_from (s ∷ ss) (hand_of start.0) cuttable.leads_on start.0 (start.1).among in
    let taken : is_step_of (start.0 ∷ orbit.0) start.0 ≡ true = (is_step_of_decides (start.0 ∷ orbit.0) start.0).1
    (Contains-head start.0 orbit.0) in
    let fewer = kept_fewer (λ t. not (is_step_of (start.0 ∷ orbit.0) t)) (s ∷ ss) start.0 (start.1).among
    (ap not taken) in
    let rest = cut_of hand_of n (without (s ∷ ss) (start.0 ∷ orbit.0)) (omega arith)
    (cuttable.leaves (start.0 ∷ orbit.0) orbit.1) in
    ((start.0 ∷ orbit.0) ∷ rest.0, next start.1 orbit.1 rest.1)

-- the law
pub cuts_exist : CutsExist
cuts_exist hand_of steps can = cut_of hand_of (length steps) steps (omega arith) can
