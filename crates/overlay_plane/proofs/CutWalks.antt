-- A cut takes each step exactly once. An orbit has each of its steps once, and the rest can be cut.
use Rattle.std.proofs.Common.{◌≡◌, ◌⊎◌, inl, inr, ⊎_elim, zero, suc, Bool, true, false, cond, not, ◌||◌, List}
use Rattle.std.proofs.Common.{[], ◌∷◌, ◌++◌, take, Contains, refl, sym, ap, ◌∙◌, subst, arith}
use Rattle.std.specs.Prelude.{slice_index_or}
use Rattle.std.proofs.lemmas.Bool.{both_ways, false_from_ne_true, or_parts}
use Rattle.std.specs.List.Sorted.{IsPermutation}
use Rattle.std.proofs.lemmas.List.Elements.{All-contains, Contains-append_left, Contains-append_right}
use Rattle.std.proofs.lemmas.List.Elements.{Contains-append_cases}
use Rattle.std.proofs.lemmas.List.Sorted.{IsPermutation-refl, IsPermutation-append_right, IsPermutation-trans}
use Rattle.overlay_geom.specs.Plane.{Step, step_eq}
use Rattle.overlay_plane.specs.Turn.{Hand, step_round, IsOrbit, no_step}
use Rattle.overlay_plane.specs.Alternates.{Alternates}
use Rattle.overlay_plane.specs.NextSteps.{LeadsOn}
use Rattle.overlay_plane.specs.Orbits.{is_step_of}
use Rattle.overlay_plane.specs.Contours.{IsStart, without, IsCutInto, done, next, CanBeCut, alternating, by_one_hand}
use Rattle.overlay_plane.specs.Contours.{CutsLeaveCuttable, all_steps, CutsTakeEachOnce, IsFirstWalk, CutsAreOrbits}
use Rattle.overlay_plane.proofs.BalancedSteps.{orbits_have_each_once}
use Rattle.overlay_plane.proofs.Entries.{Contains-from_filter, Contains-filter}
use Rattle.overlay_plane.proofs.ItemsRound.{item_round-here}
use Rattle.overlay_plane.proofs.LaterEntries.{Each, Each-from_all_pairs, Each-filter}
use Rattle.overlay_plane.proofs.LeadingOn.{closed_parts_lead_on}
use Rattle.overlay_plane.proofs.NextSteps.{alternating_steps_lead_on}
use Rattle.overlay_plane.proofs.OrbitSteps.{orbits_are_cycles}
use Rattle.overlay_plane.proofs.OrbitsApart.{is_step_of_decides, orbits_are_closed, orbits_leave_the_rest}
use Rattle.overlay_plane.proofs.ShuffledSteps.{Differ, shuffled_from_same}

-- ---- steps left by steps taken

-- a step is taken, or is not
by_taken : (taken : List Step) (s : Step) → Contains taken s ⊎ (is_step_of taken s ≡ false)
by_taken taken s = by (is_step_of taken s) refl
  where
    by : (t : Bool) → is_step_of taken s ≡ t → Contains taken s ⊎ (is_step_of taken s ≡ false)
    by true e = inl ((is_step_of_decides taken s).0 e)
    by false e = inr e

-- the rest is one of the steps, and not taken
pub left_parts : (steps taken : List Step) (s : Step) → Contains (without steps taken) s →
    Contains steps s × (is_step_of taken s ≡ false)
left_parts steps taken s c =
    let parts = Contains-from_filter (λ t. not (is_step_of taken t)) steps s c in
    (parts.0, false_from_ne_true (is_step_of taken s) (λ e. both_ways (not (is_step_of taken s)) (ap not e) parts.1))

-- a step that is not taken is left
pub left_from : (steps taken : List Step) (s : Step) → Contains steps s → is_step_of taken s ≡ false →
    Contains (without steps taken) s
left_from steps taken s c e = Contains-filter (λ t. not (is_step_of taken t)) steps s c (ap not e)

-- ---- one orbit

-- lists of steps, each once, no step in both, are one such list
Each-append : (xs ys : List Step) → Each Differ xs → Each Differ ys →
    ((s : Step) → Contains ys s → is_step_of xs s ≡ false) → Each Differ (xs ++ ys)
Each-append [] ys h k apart = k
Each-append (x ∷ xs) ys h k apart = (first, Each-append xs ys h.1 k (λ s c. (apart_parts s c).1))
  where
    apart_parts : (s : Step) → Contains ys s → (step_eq x s ≡ false) × (is_step_of xs s ≡ false)
    apart_parts s c = or_parts (step_eq x s) (is_step_of xs s) (apart s c)

    first : (s : Step) → Contains (xs ++ ys) s → step_eq x s ≡ false
    first s c = ⊎_elim (λ here. h.0 s here) (λ later. (apart_parts s later).0) (Contains-append_cases xs ys s c)

-- the rest after an orbit of alternating steps alternates
pub left_alternates : (steps : List Step) → Alternates steps → (hand : Hand) (walk : List Step) →
    IsOrbit steps hand walk → Alternates (without steps walk)
left_alternates steps alternates hand walk orbit =
    (orbits_leave_the_rest steps alternates hand walk orbit (is_step_of walk)
    (is_step_of_decides walk)).1.left_alternate

-- the rest after an orbit of steps that lead on leads on
pub left_leads_on : (steps : List Step) (hand : Hand) → LeadsOn steps hand → (walk : List Step) →
    IsOrbit steps hand walk →
    LeadsOn (without steps walk) hand
left_leads_on steps hand leads walk orbit =
    (closed_parts_lead_on steps hand leads (is_step_of walk)
    (orbits_are_closed steps hand leads walk orbit (is_step_of walk) (is_step_of_decides walk))).rest_leads_on

-- the rest after an orbit by the rule's hand can be cut
pub cuts_leave_cuttable : CutsLeaveCuttable
cuts_leave_cuttable hand_of steps (alternating alternates) s c = record {
  leads_on = alternating_steps_lead_on steps alternates (hand_of s);
  leaves = λ walk orbit. alternating (left_alternates steps alternates (hand_of s) walk orbit);
}
cuts_leave_cuttable hand_of steps (by_one_hand hand tells leads) s c = record {
  leads_on = subst (λ h. LeadsOn steps h) (sym (tells s c)) leads;
  leaves = λ walk orbit. by_one_hand hand (λ t d. tells t (left_parts steps walk t d).0)
      (left_leads_on steps hand leads walk (subst (λ h. IsOrbit steps h walk) (tells s c) orbit));
}

module _ (steps : List Step) (hand : Hand) (leads : LeadsOn steps hand) (walk : List Step)
    (orbit : IsOrbit steps hand walk) where
  -- the steps are those of the orbit and those that it leaves
  pub walk_and_left : Each Differ steps → IsPermutation steps (walk ++ without steps walk)
  walk_and_left once = shuffled_from_same steps (walk ++ without steps walk) once
      (Each-append walk (without steps walk)
      (Each-from_all_pairs Differ walk (orbits_have_each_once steps hand leads walk orbit))
      (Each-filter Differ (λ s. not (is_step_of walk s)) steps once)
      (λ s c. (left_parts steps walk s c).1))
      (λ s c. ⊎_elim
      (λ taken. Contains-append_left walk (without steps walk) s taken)
      (λ apart. Contains-append_right walk (without steps walk) s (left_from steps walk s c apart))
      (by_taken walk s))
      (λ s c. ⊎_elim
      (λ taken. All-contains (Contains steps) walk s (orbits_are_cycles steps hand leads walk orbit).inside taken)
      (λ later. (left_parts steps walk s later).0)
      (Contains-append_cases walk (without steps walk) s c))

-- ---- a cut

-- the cut takes each step exactly once
each_taken_once : (hand_of : Step → Hand) (steps : List Step) → CanBeCut hand_of steps → Each Differ steps →
    (walks : List (List Step)) →
    IsCutInto hand_of steps walks →
    IsPermutation steps (all_steps walks)
each_taken_once hand_of steps can once walks done = IsPermutation-refl []
each_taken_once hand_of steps can once walks (next {s} {ss} {rest} start orbit cut) =
    let cuttable = cuts_leave_cuttable hand_of steps can s start.among in
    IsPermutation-trans steps ((s ∷ ss) ++ without steps (s ∷ ss)) ((s ∷ ss) ++ all_steps rest)
    (walk_and_left steps (hand_of s) cuttable.leads_on (s ∷ ss) orbit once)
    (IsPermutation-append_right (s ∷ ss) (without steps (s ∷ ss)) (all_steps rest)
    (each_taken_once hand_of (without steps (s ∷ ss)) (cuttable.leaves (s ∷ ss) orbit)
    (Each-filter Differ (λ t. not (is_step_of (s ∷ ss) t)) steps once) rest cut))

-- the law
pub cuts_take_each_once : CutsTakeEachOnce
cuts_take_each_once hand_of steps can once walks cut = each_taken_once hand_of steps can
    (Each-from_all_pairs Differ steps once) walks cut

-- where nothing is taken, all steps are left
pub without-none : (steps : List Step) → without steps [] ≡ steps
without-none [] = refl
without-none (s ∷ ss) = ap (λ ts. s ∷ ts) (without-none ss)

-- a step of two lists joined is one of either
pub is_step_of-append : (xs ys : List Step) (s : Step) → is_step_of (xs ++ ys) s ≡ (is_step_of xs s || is_step_of ys s)
is_step_of-append [] ys s = refl
is_step_of-append (x ∷ xs) ys s = by (step_eq x s) (is_step_of-append xs ys s)
  where
    by : (t : Bool) → is_step_of (xs ++ ys) s ≡ (is_step_of xs s || is_step_of ys s) →
        (t || is_step_of (xs ++ ys) s) ≡ ((t || is_step_of xs s) || is_step_of ys s)
    by true e = refl
    by false e = e

-- the steps left by two lists one after the other are those left by both
pub without-without : (steps xs ys : List Step) → without (without steps xs) ys ≡ without steps (xs ++ ys)
without-without [] xs ys = refl
without-without (s ∷ ss) xs ys =
    by (is_step_of xs s) (without-without ss xs ys)
    ∙ ap (λ t. cond (not t) (s ∷ without ss (xs ++ ys)) (without ss (xs ++ ys))) (sym (is_step_of-append xs ys s))
  where
    by : (t : Bool) → without (without ss xs) ys ≡ without ss (xs ++ ys) →
        without (cond (not t) (s ∷ without ss xs) (without ss xs)) ys ≡ cond (not (t || is_step_of ys s))
        (s ∷ without ss (xs ++ ys)) (without ss (xs ++ ys))
    by true e = e
    by false e = ap (λ ts. cond (not (is_step_of ys s)) (s ∷ ts) ts) e

-- the orbit of the start of steps that alternate
first_walk : (hand_of : Step → Hand) (steps : List Step) (s : Step) (ss : List Step) → Alternates steps →
    IsStart steps s →
    IsOrbit steps (hand_of s) (s ∷ ss) →
    IsFirstWalk hand_of steps (s ∷ ss)
first_walk hand_of steps s ss alternates start orbit = record {
  alternate = alternates;
  start = subst (λ t. IsStart steps t) (sym first) start;
  orbit = subst (λ t. IsOrbit steps (hand_of t) (s ∷ ss)) (sym first) orbit;
}
  where
    first : step_round (s ∷ ss) 0 ≡ s
    first = item_round-here (s ∷ ss) no_step 0 (omega arith)

-- the rest after the first walks alternates, and the next walk is the orbit of its start
pub cuts_are_orbits : CutsAreOrbits
cuts_are_orbits hand_of steps alternates walks done k h = absurd (elim h [ ])
cuts_are_orbits hand_of steps alternates walks (next {s} {ss} {rest} start orbit cut) zero h =
    subst (λ left. IsFirstWalk hand_of left (s ∷ ss)) (sym (without-none steps))
    (first_walk hand_of steps s ss alternates start orbit)
cuts_are_orbits hand_of steps alternates walks (next {s} {ss} {rest} start orbit cut) (suc k) h =
    subst (λ left. IsFirstWalk hand_of left (slice_index_or rest k []))
    (without-without steps (s ∷ ss) (all_steps (take k rest)))
    (cuts_are_orbits hand_of (without steps (s ∷ ss)) (left_alternates steps alternates (hand_of s) (s ∷ ss) orbit) rest
    cut k (omega arith))
