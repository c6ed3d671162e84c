-- A walk under way: the orbit so far, the last step of it pending, and the steps that are left after all but the first
-- are taken.
use Rattle.std.proofs.Common.{◌≡◌, ⊎_elim, ◌+◌, ◌-◌, ◌<◌, ◌≤◌, Bool, true, false, cond, not, ◌||◌, List, [], ◌∷◌, ◌++◌}
use Rattle.std.proofs.Common.{length, drop, refl, sym, ap, ◌∙◌, subst, arith}
use Rattle.std.specs.Prelude.{Contains, Any}
use Rattle.std.proofs.lemmas.Bool.{both_ways, false_from_ne_true}
use Rattle.std.proofs.lemmas.List.{length_push, length-drop, get_or_push, get_or_append_left, get_or-drop}
use Rattle.std.proofs.lemmas.List.{drop-append-le}
use Rattle.std.proofs.lemmas.List.Elements.{All-contains}
use Rattle.overlay_geom.specs.Plane.{Step, step_eq}
use Rattle.overlay_plane.specs.Turn.{Hand, is_met_before, IsNextStep, step_round, IsOrbit, no_step}
use Rattle.overlay_plane.specs.NextSteps.{LeadsOn}
use Rattle.overlay_plane.specs.Contours.{without}
use Rattle.overlay_plane.specs.Orbits.{is_step_of}
use Rattle.overlay_plane.specs.OrbitsSoFar.{IsOrbitSoFar, last_of, GoesRound}
use Rattle.overlay_plane.proofs.AtNodes.{by_steps, ways_apart}
use Rattle.overlay_plane.proofs.CutWalks.{left_parts, left_from, without-none, is_step_of-append, without-without}
use Rattle.overlay_plane.proofs.Entries.{any_of_entry}
use Rattle.overlay_plane.proofs.ItemsRound.{item_round-here, place_of, Contains-item_round}
use Rattle.overlay_plane.proofs.LeadingOn.{has_next, next_leaves}
use Rattle.overlay_plane.proofs.OrbitsApart.{is_step_of_decides}
use Rattle.overlay_plane.proofs.OrbitsSoFar.{orbits_grow}
use Rattle.overlay_plane.proofs.TurnOrder.{met_total}

-- ---- the rest

-- lists with the same steps leave the same
without-same : (steps xs ys : List Step) → ((s : Step) → is_step_of xs s ≡ is_step_of ys s) →
    without steps xs ≡ without steps ys
without-same [] xs ys same = refl
without-same (s ∷ ss) xs ys same =
    ap (λ t. cond (not t) (s ∷ without ss xs) (without ss xs)) (same s)
    ∙ ap (λ ts. cond (not (is_step_of ys s)) (s ∷ ts) ts) (without-same ss xs ys same)

-- the first step taken last leaves the same
first_taken_last : (steps : List Step) (t : Step) (ts : List Step) →
    without (without steps ts) (t ∷ []) ≡ without steps (t ∷ ts)
first_taken_last steps t ts = without-without steps ts (t ∷ []) ∙ without-same steps (ts ++ t ∷ []) (t ∷ ts)
    (λ s. is_step_of-append ts (t ∷ []) s ∙ by (step_eq t s) (is_step_of ts s))
  where
    by : (b c : Bool) → (c || (b || false)) ≡ (b || c)
    by true true = refl
    by true false = refl
    by false true = refl
    by false false = refl

-- ---- a walk under way

-- the walk and a step on are an orbit so far that begins with the start; all of it but the first step are taken
pub record IsUnderWay (steps : List Step) (hand : Hand) (start : Step) (walk : List Step) (s : Step)
    (left : List Step) : Type 0 where
  pub far : IsOrbitSoFar steps hand (walk ++ s ∷ [])
  pub begins : step_round (walk ++ s ∷ []) 0 ≡ start
  pub rest : left ≡ without steps (drop 1 (walk ++ s ∷ []))

-- a step of the set is under way
pub sets_out : (steps : List Step) (hand : Hand) (start : Step) → Contains steps start →
    IsUnderWay steps hand start [] start steps
sets_out steps hand start c = record {
  far = orbits_grow.begins steps hand start c;
  begins = refl;
  rest = sym (without-none steps);
}

module _ (steps : List Step) (hand : Hand) (leads : LeadsOn steps hand) (start : Step) (walk : List Step) (s : Step)
    (left : List Step) (way : IsUnderWay steps hand start walk s left) where
  -- the walk so far
  abbrev all : List Step
  all = walk ++ s ∷ []

  longer : length all ≡ length walk + 1
  longer = length_push walk s

  round : GoesRound steps hand all
  round = orbits_grow.goes_round steps hand leads all way.far

  -- it ends with the step
  ends : last_of all ≡ s
  ends = item_round-here all no_step (length all - 1) (let l = longer in omega arith)
      ∙ get_or_push walk s no_step (length all - 1) (let l = longer in omega arith)

  pub pending_inside : Contains steps s
  pending_inside = subst (λ t. Contains steps t) ends (round.inside (length all - 1))

  -- fewer steps are in front of it than there are
  pub walked_few : length walk + 1 ≤ length steps
  walked_few = let l = longer in let f = round.few in omega arith

  -- its next step has not been taken
  next_not_taken : (t : Step) → IsNextStep steps hand s t → ¬ (Contains (drop 1 all) t)
  next_not_taken t next c =
      let at = place_of (drop 1 all) no_step t c in
      let long : length (drop 1 all) ≡ length all - 1 = length-drop 1 all in
      let here : step_round all (1 + at.0) ≡ t = item_round-here all no_step (1 + at.0) (let h = at.1 in omega arith)
      ∙ sym (get_or-drop 1 all at.0 no_step) ∙ sym (item_round-here (drop 1 all) no_step at.0 at.1) ∙ at.2 in
      let in_all : Contains all t = subst (λ u. Contains all u) here
      (Contains-item_round all no_step (1 + at.0) (let l = longer in omega arith)) in
      let first = round.comes_to_new t (subst (λ u. IsNextStep steps hand u t) (sym ends) next) in_all in
      way.far.once (1 + at.0) (omega arith) (let h = at.1 in omega arith) (here ∙ first)

  next_left : (t : Step) → IsNextStep steps hand s t → Contains left t
  next_left t next = subst (λ ss. Contains ss t) (sym way.rest)
      (left_from steps (drop 1 all) t next.among
      (false_from_ne_true (is_step_of (drop 1 all) t)
      (λ e. next_not_taken t next ((is_step_of_decides (drop 1 all) t).0 e))))

  left_inside : (t : Step) → Contains left t → Contains steps t
  left_inside t c = (left_parts steps (drop 1 all) t (subst (λ ss. Contains ss t) way.rest c)).0

  -- a step that is left leaves its end
  pub way_goes_on : Any (λ t. t.from ≡ s.to) left
  way_goes_on = let next = has_next steps hand leads s pending_inside in
      any_of_entry (λ t. t.from ≡ s.to) left next.0 (next_left next.0 next.1) (next.1).leaves

  -- the next step among those left is the next of all
  pub next_of_all : (t : Step) → IsNextStep left hand s t → IsNextStep steps hand s t
  next_of_all t next = by (has_next steps hand leads s pending_inside)
    where
      by : (u : Step) × IsNextStep steps hand s u → IsNextStep steps hand s t
      by (u, real) = ⊎_elim (λ same. subst (λ w. IsNextStep steps hand s w) same real)
          (λ different. absurd (against different)) (by_steps u t)
        where
          against : ¬ (u ≡ t) → ⊥
          against different = ⊎_elim
              (λ before. both_ways (is_met_before hand s.to s.from u.to t.to)
              (All-contains (λ w. w.from ≡ s.to → is_met_before hand s.to s.from w.to t.to ≡ false) left u next.first
              (next_left u real) real.leaves) before)
              (λ after. both_ways (is_met_before hand s.to s.from t.to u.to)
              (All-contains (λ w. w.from ≡ s.to → is_met_before hand s.to s.from w.to u.to ≡ false) steps t real.first
              (left_inside t next.among) next.leaves) after)
              (met_total hand s.to s.from u.to t.to (leads.long s pending_inside)
              (ways_apart steps leads.long leads.one_leaves s.to u t (next_leaves steps hand s u real)
              (record { among = left_inside t next.among; at = next.leaves }) different))

  module _ (t : Step) (after : List Step) (next : IsNextStep left hand s t)
      (taken : after ≡ without left (t ∷ [])) where
    -- the next step among those left is the next of the walk's last step
    on_from_last : IsNextStep steps hand (last_of all) t
    on_from_last = subst (λ u. IsNextStep steps hand u t) (sym ends) (next_of_all t next)

    -- back at the start the walk is the orbit
    pub comes_round : t ≡ start → IsOrbit steps hand all
    comes_round same = round.closes
        (subst (λ u. IsNextStep steps hand (last_of all) u) (same ∙ sym way.begins) on_from_last)

    -- the walk has taken all its steps
    pub takes_all : t ≡ start → after ≡ without steps all
    takes_all same = taken ∙ ap (λ ss. without ss (t ∷ [])) way.rest ∙ by all (let l = longer in omega arith)
        (way.begins ∙ sym same)
      where
        by : (ts : List Step) → 0 < length ts → step_round ts 0 ≡ t →
            without (without steps (drop 1 ts)) (t ∷ []) ≡ without steps ts
        by [] some first = absurd (elim some [ ])
        by (u ∷ us) some first = subst (λ w. without (without steps us) (w ∷ []) ≡ without steps (u ∷ us))
            (sym (item_round-here (u ∷ us) no_step 0 (omega arith)) ∙ first) (first_taken_last steps u us)

    -- elsewhere it is under way
    pub walks_on : ¬ (t ≡ start) → IsUnderWay steps hand start (walk ++ s ∷ []) t after
    walks_on other = record {
      far = round.grows t on_from_last (λ e. other (e ∙ way.begins));
      begins = item_round-here (all ++ t ∷ []) no_step 0 (let l = longer in let m = length_push all t in omega arith)
          ∙ get_or_append_left all (t ∷ []) no_step 0 (let l = longer in omega arith)
          ∙ sym (item_round-here all no_step 0 (let l = longer in omega arith)) ∙ way.begins;
      rest = taken ∙ ap (λ ss. without ss (t ∷ [])) way.rest ∙ without-without steps (drop 1 all) (t ∷ [])
          ∙ ap (without steps) (sym (drop-append-le 1 all (t ∷ []) (let l = longer in omega arith)));
    }
