-- Steps are balanced on an arrangement where the rises of a number given to each point sum to 0 along them. Along an
-- orbit they telescope. In a set that alternates each step ends where its next step begins.
use Rattle.std.proofs.Common.{◌≡◌, ℕ, suc, ◌<◌, Bool, true, false, cond, not, ℤ, pos, ◌-ℤ◌, ◌*ℤ◌, List, [], ◌∷◌, length}
use Rattle.std.proofs.Common.{get_or, Contains, filter, refl, sym, ap, ◌∙◌, subst, arith}
use Rattle.std.proofs.lemmas.Bool.{both_ways, false_from_ne_true}
use Rattle.std.proofs.lemmas.List.{get_or_default}
use Rattle.std.proofs.lemmas.List.Kept.{AllPairs-filter}
use lib.IntN.{*ℤ_comm, +ℤ_idr}
use Rattle.overlay_geom.specs.Plane.{Point, Step, edge_eq, step_eq, edge_of, sign_of, total}
use Rattle.overlay_geom.specs.Edges.{CountedEdge, ends_of}
use Rattle.overlay_geom.proofs.Signs.{linear}
use Rattle.overlay_geom.proofs.Orders.{edge_eq-exchanged}
use Rattle.overlay_plane.specs.Turn.{Hand, IsNextStep, step_round, IsOrbit, no_step}
use Rattle.overlay_plane.specs.Turn.Hand.{right}
use Rattle.overlay_plane.specs.Alternates.{Alternates}
use Rattle.overlay_plane.specs.Orbits.{is_step_of}
use Rattle.overlay_plane.specs.BesideOrbits.{count_on, WalksAlong, IsBalancedPart, HasEachOnce, OrbitsHaveEachOnce}
use Rattle.overlay_plane.specs.BesideOrbits.{OrbitsAreBalanced, AlternatingStepsAreBalanced, ClosedPartsAreBalanced}
use Rattle.overlay_plane.proofs.Entries.{Contains-from_filter}
use Rattle.overlay_plane.proofs.Tests.{same_tests}
use Rattle.overlay_plane.proofs.Totals.{total-same, total-sub}
use Rattle.overlay_plane.proofs.JoinedLists.{total-times, times_taken}
use Rattle.overlay_plane.proofs.SingleEntries.{single_total}
use Rattle.overlay_plane.proofs.Telescopes.{signed_rise, signed_rise-is}
use Rattle.overlay_plane.proofs.ItemsRound.{item_round-here, place_of}
use Rattle.overlay_plane.proofs.AtNodes.{same_steps, equal_steps}
use Rattle.overlay_plane.proofs.LeadingOn.{has_next, has_one_next}
use Rattle.overlay_plane.proofs.NextSteps.{leads_on, next_injective, next_surjective}
use Rattle.overlay_plane.proofs.ClosedParts.{closed_parts_alternate}
use Rattle.overlay_plane.proofs.OrbitSteps.{goes_on_round, last_to_first, step_inside, apart_before}
use Rattle.overlay_plane.proofs.OrbitsApart.{is_step_of_decides}
use Rattle.overlay_plane.proofs.StepTotals.{total-exchange, single_step_total}

-- ---- counts on edges

module _ (es : List CountedEdge) (steps : List Step) (walks : WalksAlong es steps) (taken : List Step)
    (inside : (s : Step) → Contains taken s → Contains steps s) (g : Point → ℤ) where
  -- how much g rises along an edge
  abbrev rise : CountedEdge → ℤ
  rise e = g e.b -ℤ g e.a

  -- the rise of a step on an edge: 0 except on its own edge
  abbrev rise_on : CountedEdge → Step → ℤ
  rise_on e s = rise e *ℤ cond (edge_eq (edge_of s) (ends_of e)) (sign_of s) (pos 0)

  -- over all edges it is the rise of g along the step
  rise_of_step : (s : Step) → Contains taken s → total (λ e. rise_on e s) es ≡ signed_rise g s
  rise_of_step s c =
      total-same (λ e. rise_on e s) (λ e. cond (edge_eq (ends_of e) (ends_of own)) (rise e *ℤ sign_of s) (pos 0)) es
      (λ e at. times_taken (edge_eq (edge_of s) (ends_of e)) (rise e) (sign_of s)
      ∙ ap (λ b. cond b (rise e *ℤ sign_of s) (pos 0)) (one_test e))
      ∙ single_total es walks.planar.distinct (λ e. rise e *ℤ sign_of s) own (walks.along s (inside s c)).1
      ∙ ap (λ f. (g f.b -ℤ g f.a) *ℤ sign_of s) (sym along)
      ∙ *ℤ_comm (g (edge_of s).b -ℤ g (edge_of s).a) (sign_of s)
    where
      own : CountedEdge
      own = (walks.along s (inside s c)).0

      along : edge_of s ≡ ends_of own
      along = (walks.along s (inside s c)).2

      one_test : (e : CountedEdge) → edge_eq (edge_of s) (ends_of e) ≡ edge_eq (ends_of e) (ends_of own)
      one_test e = ap (λ f. edge_eq f (ends_of e)) along ∙ same_tests (edge_eq (ends_of own) (ends_of e))
          (edge_eq (ends_of e) (ends_of own)) (edge_eq-exchanged (ends_of own) (ends_of e))
          (edge_eq-exchanged (ends_of e) (ends_of own))

  -- the counted edges rise together as the steps
  counted_rise : total (λ e. count_on taken e *ℤ rise e) es ≡ total (signed_rise g) taken
  counted_rise =
      total-same (λ e. count_on taken e *ℤ rise e) (λ e. total (λ s. rise_on e s) taken) es
      (λ e at. *ℤ_comm (count_on taken e) (rise e)
      ∙ sym (total-times (rise e) (λ s. cond (edge_eq (edge_of s) (ends_of e)) (sign_of s) (pos 0)) taken))
      ∙ total-exchange rise_on es taken
      ∙ total-same (λ s. total (λ e. rise_on e s) es) (signed_rise g) taken rise_of_step

-- steps along which every number rises by 0 in all have balanced counts
pub balanced_from_rises : (es : List CountedEdge) (steps : List Step) → WalksAlong es steps → (taken : List Step) →
    ((s : Step) → Contains taken s → Contains steps s) →
    ((g : Point → ℤ) → total (signed_rise g) taken ≡ pos 0) → IsBalancedPart es steps taken
balanced_from_rises es steps walks taken inside level =
    record { inside = inside; balanced = λ g. counted_rise es steps walks taken inside g ∙ level g }

-- ---- orbits

-- each step of the list but the first begins where the step before ends
abbrev IsLinked : List Step → Type 0
IsLinked ss = (k : ℕ) → suc k < length ss → (get_or ss (suc k) no_step).from ≡ (get_or ss k no_step).to

-- along such a list g rises from its start to its end
rise_of_linked : (g : Point → ℤ) (s : Step) (ss : List Step) → IsLinked (s ∷ ss) →
    total (signed_rise g) (s ∷ ss) ≡ g (get_or (s ∷ ss) (length ss) no_step).to -ℤ g s.from
rise_of_linked g s [] linked = +ℤ_idr (signed_rise g s) ∙ signed_rise-is g s
rise_of_linked g s (t ∷ ts) linked =
    let first = signed_rise-is g s in
    let rest = rise_of_linked g t ts (λ k h. linked (suc k) (omega arith)) in
    let meet : g t.from ≡ g s.to = ap g (linked 0 (omega arith)) in
    omega linear

-- round an orbit it is 0
orbit_rises : (steps : List Step) (hand : Hand) (walk : List Step) → IsOrbit steps hand walk →
    (g : Point → ℤ) → total (signed_rise g) walk ≡ pos 0
orbit_rises steps hand [] orbit g = refl
orbit_rises steps hand (s ∷ ss) orbit g =
    let along = rise_of_linked g s ss linked in
    let closed = ap g back in
    omega linear
  where
    linked : IsLinked (s ∷ ss)
    linked k h = sym (ap (λ t. t.from) (item_round-here (s ∷ ss) no_step (suc k) h))
        ∙ (goes_on_round steps hand (s ∷ ss) orbit k).leaves
        ∙ ap (λ t. t.to) (item_round-here (s ∷ ss) no_step k (omega arith))

    back : s.from ≡ (get_or (s ∷ ss) (length ss) no_step).to
    back = sym (ap (λ t. t.from) (item_round-here (s ∷ ss) no_step 0 orbit.some))
        ∙ (last_to_first steps hand (s ∷ ss) orbit (length ss) refl).leaves
        ∙ ap (λ t. t.to) (item_round-here (s ∷ ss) no_step (length ss) (omega arith))

-- the law of orbits
pub orbits_are_balanced : OrbitsAreBalanced
orbits_are_balanced es steps walks hand walk orbit = balanced_from_rises es steps walks walk
    (λ s c. let at = place_of walk no_step s c in
    subst (λ t. Contains steps t) at.2 (step_inside steps hand walk orbit at.0)) (orbit_rises steps hand walk orbit)

-- no step stands twice in an orbit
pub orbits_have_each_once : OrbitsHaveEachOnce
orbits_have_each_once steps hand leads walk orbit i j d less within = false_from_ne_true
    (step_eq (get_or walk i d) (get_or walk j d))
    (λ same. apart_before steps hand walk orbit leads i j less within
    (at i (omega arith) ∙ same_steps (get_or walk i d) (get_or walk j d) same ∙ sym (at j within)))
  where
    at : (k : ℕ) → k < length walk → step_round walk k ≡ get_or walk k d
    at k h = item_round-here walk no_step k h ∙ get_or_default walk k no_step d h

-- ---- sets that alternate

module _ (steps : List Step) (alternates : Alternates steps) where
  -- the next step, by the answer whether the step is in the set
  next_by : (s : Step) (b : Bool) → is_step_of steps s ≡ b → Step
  next_by s true e = (has_next steps right (leads_on steps alternates right) s ((is_step_of_decides steps s).0 e)).0
  next_by s false e = s

  -- the next step of a step of the set by the right hand
  next_of : Step → Step
  next_of s = next_by s (is_step_of steps s) refl

  -- it is that
  next_of-is : (s : Step) → Contains steps s → IsNextStep steps right s (next_of s)
  unfolding next_of next_by
  next_of-is s c = by (is_step_of steps s) refl
    where
      by : (b : Bool) (e : is_step_of steps s ≡ b) → IsNextStep steps right s (next_by s b e)
      by true e = (has_next steps right (leads_on steps alternates right) s ((is_step_of_decides steps s).0 e)).1
      by false e = absurd (both_ways (is_step_of steps s) e ((is_step_of_decides steps s).1 c))

  -- the previous step, by the answer whether the step is in the set
  before_by : (t : Step) (b : Bool) → is_step_of steps t ≡ b → Step
  before_by t true e = (next_surjective steps alternates right t ((is_step_of_decides steps t).0 e)).0
  before_by t false e = t

  -- the step before a step of the set
  before_of : Step → Step
  before_of t = before_by t (is_step_of steps t) refl

  -- it is that, and in the set
  before_of-is : (t : Step) → Contains steps t → Contains steps (before_of t) × IsNextStep steps right (before_of t) t
  unfolding before_of before_by
  before_of-is t c = by (is_step_of steps t) refl
    where
      by : (b : Bool) (e : is_step_of steps t ≡ b) → Contains steps (before_by t b e) × IsNextStep steps right
          (before_by t b e) t
      by true e = let found = next_surjective steps alternates right t ((is_step_of_decides steps t).0 e) in
          (found.1, found.2)
      by false e = absurd (both_ways (is_step_of steps t) e ((is_step_of_decides steps t).1 c))

  -- t is the next step of s exactly where s is the step before t
  one_after_other : (s t : Step) → Contains steps s → Contains steps t → step_eq t (next_of s) ≡ step_eq s (before_of t)
  one_after_other s t c d = same_tests (step_eq t (next_of s)) (step_eq s (before_of t)) forth back
    where
      forth : step_eq t (next_of s) ≡ true → step_eq s (before_of t) ≡ true
      forth same = equal_steps s (before_of t) (next_injective steps alternates right s (before_of t) t c
          (before_of-is t d).0
          (subst (λ u. IsNextStep steps right s u) (sym (same_steps t (next_of s) same)) (next_of-is s c))
          (before_of-is t d).1)

      back : step_eq s (before_of t) ≡ true → step_eq t (next_of s) ≡ true
      back same = equal_steps t (next_of s) (has_one_next steps right (leads_on steps alternates right) s t
          (next_of s) c
          (subst (λ u. IsNextStep steps right u t) (sym (same_steps s (before_of t) same)) (before_of-is t d).1)
          (next_of-is s c))

  module _ (once : HasEachOnce steps) (g : Point → ℤ) where
    -- the ends of all steps are their starts
    ends_are_starts : total (λ s. g s.to) steps ≡ total (λ t. g t.from) steps
    ends_are_starts =
        total-same (λ s. g s.to) (λ s. total (λ t. cond (step_eq t (next_of s)) (g t.from) (pos 0)) steps) steps
        (λ s c. sym (single_step_total steps once (λ t. g t.from) (next_of s) (next_of-is s c).among
        ∙ ap g (next_of-is s c).leaves))
        ∙ total-exchange (λ s t. cond (step_eq t (next_of s)) (g t.from) (pos 0)) steps steps
        ∙ total-same (λ t. total (λ s. cond (step_eq t (next_of s)) (g t.from) (pos 0)) steps) (λ t. g t.from) steps
        (λ t d. total-same (λ s. cond (step_eq t (next_of s)) (g t.from) (pos 0))
        (λ s. cond (step_eq s (before_of t)) (g t.from) (pos 0)) steps
        (λ s c. ap (λ b. cond b (g t.from) (pos 0)) (one_after_other s t c d))
        ∙ single_step_total steps once (λ s. g t.from) (before_of t) (before_of-is t d).0)

    -- so g rises by 0 in all
    alternating_rises : total (signed_rise g) steps ≡ pos 0
    alternating_rises = total-same (signed_rise g) (λ s. g s.to -ℤ g s.from) steps (λ s c. signed_rise-is g s)
        ∙ total-sub (λ s. g s.to) (λ s. g s.from) steps
        ∙ difference (total (λ s. g s.to) steps) (total (λ s. g s.from) steps) ends_are_starts
      where
        difference : (a b : ℤ) → a ≡ b → a -ℤ b ≡ pos 0
        difference a b same = omega linear

-- the law of sets that alternate
pub alternating_steps_are_balanced : AlternatingStepsAreBalanced
alternating_steps_are_balanced es steps walks alternates once = balanced_from_rises es steps walks steps (λ s c. c)
    (alternating_rises steps alternates once)

-- a part of the set that alternates is balanced
balanced_part : (es : List CountedEdge) (steps : List Step) → WalksAlong es steps → HasEachOnce steps →
    (test : Step → Bool) → Alternates (filter test steps) → IsBalancedPart es steps (filter test steps)
balanced_part es steps walks once test alternates = balanced_from_rises es steps walks (filter test steps)
    (λ s c. (Contains-from_filter test steps s c).0)
    (alternating_rises (filter test steps) alternates (AllPairs-filter (λ s t. step_eq s t ≡ false) test steps once))

-- the law of closed parts
pub closed_parts_are_balanced : ClosedPartsAreBalanced
closed_parts_are_balanced es steps walks alternates once hand taken closed =
    let apart = closed_parts_alternate steps alternates hand taken closed in record {
      of_taken = balanced_part es steps walks once taken apart.taken_alternate;
      of_left = balanced_part es steps walks once (λ s. not (taken s)) apart.left_alternate;
    }
