-- The first open place of a run, by the order in which a ray meets the steps there, is that of the next step.
use Rattle.std.proofs.Common.{◌≡◌, ℕ, ◌+◌, ◌<◌, ◌≤◌, Bool, true, false, cond, ◌&&◌, List, [], ◌∷◌, length, refl, sym}
use Rattle.std.proofs.Common.{ap, ap₂, ◌∙◌, subst, arith}
use Rattle.std.specs.Prelude.{Contains, Any, Option, Some, None, option_map, ◌↔◌}
use Rattle.std.proofs.lemmas.Bool.{both_ways}
use Rattle.std.proofs.lemmas.List.Elements.{All-nil, All-cons, All-head}
use Rattle.overlay_geom.specs.Plane.{Point, Step}
use Rattle.overlay_plane.specs.Turn.{Hand, is_met_before, IsMetBefore, IsNextStep}
use Rattle.overlay_plane.proofs.Entries.{all_of_entries, Contains-from_any}
use Rattle.overlay_plane.proofs.Tests.{same_tests}
use Rattle.overlay_plane.proofs.TurnOrder.{met_irreflexive, met_transitive}
use Rattle.overlay_walk.specs.Nearest.{Nearest, HasSeen, IsMetFirst, IsNearer}
use Rattle.overlay_walk.specs.Places.{is_open, step_at, IsNextAt, IsNextPlace}
use Rattle.overlay_walk.specs.Steps.{unmarked}
use Rattle.overlay_walk.proofs.FirstPlaces.{comes_first, IsFirstOf, looked_at}
use Rattle.overlay_walk.proofs.OpenPlaces.{unmarked_at, place_of_unmarked}
use Rattle.overlay_walk.proofs.Runs.{IsRun}

-- a ray that turns by the hand at v from u meets the step at place j before that at k
abbrev pub is_place_met_before : List Step → Hand → Point → Point → ℕ → ℕ → Bool
is_place_met_before ss hand v u j k = is_met_before hand v u (step_at ss j).to (step_at ss k).to

-- such a ray, that holds the end of the step at the place found
abbrev pub held_at : List Step → Hand → Point → Point → Option ℕ → Nearest
held_at ss hand v u found = record {
  hand = hand;
  node = v;
  start = u;
  nearest = option_map (λ k. (step_at ss k).to) found;
}

module _ (ss : List Step) (hand : Hand) (v u : Point) where
  -- no place is met before itself
  pub place_met-irreflexive : (k : ℕ) → is_place_met_before ss hand v u k k ≡ false
  place_met-irreflexive k = met_irreflexive hand v u (step_at ss k).to

  -- the order in which places are met is transitive
  pub place_met-transitive : ¬ (u ≡ v) → (bound : ℕ) (i j k : ℕ) → i < bound → j < bound → k < bound →
      is_place_met_before ss hand v u i j ≡ true → is_place_met_before ss hand v u j k ≡ true →
      is_place_met_before ss hand v u i k ≡ true
  place_met-transitive long bound i j k h l m = met_transitive hand v u (step_at ss i).to (step_at ss j).to
      (step_at ss k).to long

  -- of one point that one is met first
  met_first_alone : (p : Point) → IsMetFirst hand v u (p ∷ []) p
  met_first_alone p = record {
    front = [];
    back = [];
    stands = refl;
    before = All-nil (IsMetBefore hand v u p);
    not_after = All-nil (λ q. is_met_before hand v u q p ≡ false);
  }

  -- the answer by all points seen is the answer by the place found
  pub found_first : ¬ (u ≡ v) → (found : Option ℕ) (i : ℕ) (nearer : Bool) →
      ((seen : List Point) → HasSeen (held_at ss hand v u found) seen →
      (nearer ≡ true) ↔ IsNearer (held_at ss hand v u found) seen (step_at ss i).to) →
      nearer ≡ comes_first (is_place_met_before ss hand v u) found i
  found_first long None i nearer answer = (answer [] (record { apart = long; nearest = refl })).1
      (All-nil (IsMetBefore hand v u (step_at ss i).to))
  found_first long (Some k) i nearer answer =
      let p = (step_at ss i).to in
      let t = (step_at ss k).to in
      let both = answer (t ∷ []) (record { apart = long; nearest = met_first_alone t }) in
      same_tests nearer (is_met_before hand v u p t) (λ yes. All-head (IsMetBefore hand v u p) t [] (both.0 yes))
      (λ before. both.1 (All-cons (IsMetBefore hand v u p) t [] before (All-nil (IsMetBefore hand v u p))))

-- one more place is looked at
module _ (ss : List Step) (marks : List Bool) (hand : Hand) (v u : Point) (long : ¬ (u ≡ v)) (low i : ℕ)
    (found : Option ℕ) (above : low ≤ i)
    (first : IsFirstOf (is_open marks) (is_place_met_before ss hand v u) low i found) where
  -- the place found then is the first, whether or not the place is open
  first_on : (opened nearer : Bool) → is_open marks i ≡ opened →
      (opened ≡ true → nearer ≡ comes_first (is_place_met_before ss hand v u) found i) →
      IsFirstOf (is_open marks) (is_place_met_before ss hand v u) low (i + 1) (cond (opened && nearer) (Some i) found)
  first_on opened nearer at answer = subst
      (λ b. IsFirstOf (is_open marks) (is_place_met_before ss hand v u) low (i + 1) (cond b (Some i) found))
      (same opened at answer)
      (looked_at (is_open marks) (is_place_met_before ss hand v u) (i + 1) (place_met-irreflexive ss hand v u)
      (place_met-transitive ss hand v u long (i + 1))
      low i found above (omega arith) first)
    where
      same : (b : Bool) → is_open marks i ≡ b →
          (b ≡ true → nearer ≡ comes_first (is_place_met_before ss hand v u) found i) →
          (is_open marks i && comes_first (is_place_met_before ss hand v u) found i) ≡ (b && nearer)
      same true is e = ap₂ (λ a b. a && b) is (sym (e refl))
      same false is e = ap (λ b. b && comes_first (is_place_met_before ss hand v u) found i) is

  -- where the place is open, with the ray to which the end of its step is added
  pub place_added : is_open marks i ≡ true → (old new : Nearest) → old ≡ held_at ss hand v u found →
      (p : Point) → p ≡ (step_at ss i).to →
      (nearer b : Bool) → nearer ≡ b →
      ((seen : List Point) → HasSeen old seen → (nearer ≡ true) ↔ IsNearer old seen p) →
      new ≡ record old { nearest = cond nearer (Some p) old.nearest } →
      (new ≡ held_at ss hand v u (cond b (Some i) found)) × IsFirstOf (is_open marks) (is_place_met_before ss hand v u)
      low (i + 1) (cond b (Some i) found)
  place_added at old new old_is p p_is nearer b b_is answer new_is = (
    new_is ∙ ap₂ (λ (n : Nearest) (q : Point). record n { nearest = cond nearer (Some q) n.nearest }) old_is p_is
        ∙ ap (λ c. record h { nearest = cond c (Some (step_at ss i).to) h.nearest }) b_is ∙ at_place b,
    first_on true b at (λ _. sym b_is ∙ found_first ss hand v u long found i nearer
        (subst (λ n. (seen : List Point) → HasSeen n seen → (nearer ≡ true) ↔ IsNearer n seen (step_at ss i).to) old_is
        (subst (λ q. (seen : List Point) → HasSeen old seen → (nearer ≡ true) ↔ IsNearer old seen q) p_is answer))),
  )
    where
      h : Nearest
      h = held_at ss hand v u found

      at_place : (c : Bool) → record h { nearest = cond c (Some (step_at ss i).to) h.nearest } ≡ held_at ss hand v u
          (cond c (Some i) found)
      at_place true = refl
      at_place false = refl

  -- a place that is not open leaves the ray as it is
  pub place_passed : is_open marks i ≡ false → IsFirstOf (is_open marks) (is_place_met_before ss hand v u) low
      (i + 1) found
  place_passed shut = first_on false false shut (λ e. absurd (both_ways false refl e))

module _ (ss : List Step) (marks : List Bool) (hand : Hand) (s : Step) where
  -- the place found in the run of the steps that leave the end of s
  pub next_place : (low high : ℕ) → IsRun ss s.to low high → (found : Option ℕ) →
      IsFirstOf (is_open marks) (is_place_met_before ss hand s.to s.from) low high found →
      IsNextPlace ss marks hand s found
  next_place low high run None none = λ k h at leaves. let within = run.all k h leaves in
      both_ways (is_open marks k) (none k within.0 within.1) at
  next_place low high run (Some m) found = record {
    below = let a = found.below in let b = run.within in omega arith;
    untaken = found.untaken;
    leaves = run.leave m found.above found.below;
    first = λ k h at leaves. let within = run.all k h leaves in found.first k within.0 within.1 at;
  }

  module _ (same : length marks ≡ length ss) where
    -- the step there is the next, of those that are not marked
    pub next_step : (m : ℕ) → IsNextAt ss marks hand s m → IsNextStep (unmarked ss marks) hand s (step_at ss m)
    next_step m next = record {
      among = unmarked_at ss marks _ m same next.below next.untaken;
      leaves = next.leaves;
      first = all_of_entries (λ t. t.from ≡ s.to → is_met_before hand s.to s.from t.to (step_at ss m).to ≡ false)
          (unmarked ss marks) (λ t c leaves. by t c leaves);
    }
      where
        by : (t : Step) → Contains (unmarked ss marks) t → t.from ≡ s.to →
            is_met_before hand s.to s.from t.to (step_at ss m).to ≡ false
        by t c leaves =
            let at = place_of_unmarked ss marks _ t same c in
            subst (λ w. is_met_before hand s.to s.from w.to (step_at ss m).to ≡ false) (at.1).is
            (next.first at.0 (at.1).below (at.1).untaken (subst (λ w. w.from ≡ s.to) (sym (at.1).is) leaves))

    -- where a step that is not marked leaves the end of s, one is found
    pub some_next : Any (λ t. t.from ≡ s.to) (unmarked ss marks) → ¬ (IsNextPlace ss marks hand s None)
    some_next some none =
        let leaving = Contains-from_any (λ t. t.from ≡ s.to) (unmarked ss marks) some in
        let at = place_of_unmarked ss marks _ leaving.0 same leaving.1 in
        none at.0 (at.1).below (at.1).untaken (subst (λ w. w.from ≡ s.to) (sym (at.1).is) leaving.2)
