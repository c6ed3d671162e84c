-- The direction of a contour of different points, read at its smallest point from its two neighbours.
use Rattle.std.proofs.Common.{◌≡◌, ◌≢◌, ◌⊎◌, inl, inr, ⊎_elim, ℕ, suc, ◌+◌, ◌-◌, ◌<◌, ◌≤◌, Bool, true, false, cond}
use Rattle.std.proofs.Common.{pos, ◌<ℤ◌, ◌≤ℤ◌}
use Rattle.std.proofs.Common.{List, length, get_or, Contains, sym, ap, ap₂, subst, ◌∙◌, arith}
use Rattle.std.proofs.lemmas.Bool.{both_ways, cases_lt, false_from_ne_true}
use Rattle.std.proofs.lemmas.List.Elements.{Contains-get_or}
use Rattle.overlay_geom.specs.Plane.{Point, Step, Edge, point_lt, cross_at, is_forward, edge_of, steps_of}
use Rattle.overlay_geom.specs.declared.options.ContourDirection.TheVariants.{CounterClockwise, Clockwise}
use Rattle.overlay_geom.proofs.Orders.{point_eq-same, point_lt-back}
use Rattle.overlay_geom.proofs.Signs.{linear}
use Rattle.overlay_plane.specs.Groups.{HasEachPointOnce}
use Rattle.overlay_plane.specs.LeftmostSteps.{NoneHasEndBefore, NoneTakenBelow}
use Rattle.overlay_plane.specs.Nodes.{edge_turn, turns_left}
use Rattle.overlay_plane.specs.Turn.{no_step}
use Rattle.overlay_plane.proofs.EdgeTurns.{edge_turn_exchanged, edge_turn_same}
use Rattle.overlay_plane.proofs.EdgesOfSteps.{edge_by}
use Rattle.overlay_plane.proofs.Tests.{lt_from_test}
use Rattle.i_overlay.specs.Points.{IsLeast}
use Rattle.i_overlay.specs.Simple.{RunsIn}
use Rattle.i_overlay.proofs.ClosedPoints.{step_at, among, begins, stops_in_next, stops_in_first, place_of}
use Rattle.i_overlay.proofs.ClosedPoints.{one_begins}
use Rattle.i_overlay.proofs.ClosedPoints.{one_ends, all_long}

-- the place j comes after i in a closed list
abbrev pub IsAfter : ℕ → ℕ → ℕ → Type 0
IsAfter n i j = ((i + 1 < n) × (j ≡ i + 1)) ⊎ ((i + 1 ≡ n) × (j ≡ 0))

-- the place after one, found by a test for the last place
pub goes_on : (n k after : ℕ) → k < n → ((k ≡ n - 1) × (after ≡ 0)) ⊎ ((k ≢ n - 1) × (after ≡ k + 1)) →
    IsAfter n k after
goes_on n k after within (inl (last, is)) = inr (omega (arith, last, within), is)
goes_on n k after within (inr (other, is)) = inl (omega (arith, other, within), is)

-- and the one before it, by a test for the first
pub comes_from : (n k before : ℕ) → k < n → ((k ≡ 0) × (before ≡ n - 1)) ⊎ ((k ≢ 0) × (before ≡ k - 1)) →
    IsAfter n before k
comes_from n k before within (inl (first, is)) = inr (omega (arith, is, within), first)
comes_from n k before within (inr (other, is)) =
    inl (omega (arith, other, is, within), omega (arith, other, is))

-- both are places
pub is_within : (n i j : ℕ) → 0 < n → IsAfter n i j → (i < n) × (j < n)
is_within n i j some (inl (more, is)) = (omega (arith, more), omega (arith, more, is))
is_within n i j some (inr (last, is)) = (omega (arith, last), omega (arith, is, some))

module _ (ps : List Point) (once : HasEachPointOnce ps) (some : 2 ≤ length ps) where
  abbrev at : ℕ → Point
  at k = get_or ps k no_step.from

  -- the step at a place ends at the next one
  stops : (i j : ℕ) → i < length ps → IsAfter (length ps) i j → (step_at ps once some i).to ≡ at j
  stops i j within (inl (more, is)) =
      let same : suc i ≡ j = omega (arith, is) in stops_in_next ps once some i more ∙ ap at same
  stops i j within (inr (last, is)) = stops_in_first ps once some i last ∙ ap at (sym is)

  -- and so one of the points
  ends_within : (i : ℕ) → i < length ps → Contains ps (step_at ps once some i).to
  ends_within i within = ⊎_elim
      (λ more. subst (Contains ps) (sym (stops_in_next ps once some i more))
      (Contains-get_or ps (suc i) no_step.from (omega (arith, more))))
      (λ last. subst (Contains ps) (sym (stops_in_first ps once some i last))
      (Contains-get_or ps 0 no_step.from (omega (arith, some))))
      (by_places i within)
    where
      by_places : (i : ℕ) → i < length ps → (i + 1 < length ps) ⊎ (i + 1 ≡ length ps)
      by_places i within = ⊎_elim (λ more. inl more)
          (λ not_more. inr (omega (arith, not_more, within))) (cases_lt (i + 1) (length ps))

  module _ (k before after : ℕ) (within : k < length ps) (before_within : before < length ps)
      (comes : IsAfter (length ps) before k) (goes : IsAfter (length ps) k after) (least : IsLeast ps (at k)) where
    abbrev arriving : Step
    arriving = step_at ps once some before

    abbrev leaving : Step
    leaving = step_at ps once some k

    arrives : arriving.to ≡ at k
    arrives = stops before k before_within comes

    leaves : leaving.from ≡ at k
    leaves = begins ps once some k within

    -- no step has an end before it
    none_before : NoneHasEndBefore (steps_of ps) (at k)
    none_before x c (inl from) =
        let i = place_of ps once some x c in
        both_ways (point_lt x.from (at k)) (subst (λ (s : Step). point_lt s.from (at k) ≡ false) i.2
        (subst (λ (p : Point). point_lt p (at k) ≡ false) (sym (begins ps once some i.0 i.1))
        (least (at i.0) (Contains-get_or ps i.0 no_step.from i.1)))) from
    none_before x c (inr to) =
        let i = place_of ps once some x c in
        both_ways (point_lt x.to (at k)) (subst (λ (s : Step). point_lt s.to (at k) ≡ false) i.2
        (least (step_at ps once some i.0).to (ends_within i.0 i.1))) to

    -- the one step arrives there and leads back, and the other one leaves and leads forward
    back : is_forward arriving ≡ false
    back = false_from_ne_true (is_forward arriving) (λ forward.
        none_before arriving (among ps once some before before_within)
        (inl (subst (λ (p : Point). point_lt arriving.from p ≡ true) arrives forward)))

    forward : is_forward leaving ≡ true
    forward = point_lt-back leaving.to leaving.from
        (false_from_ne_true _ (λ same. all_long ps once some leaving (among ps once some k within)
        (sym (point_eq-same leaving.to leaving.from same))))
        (false_from_ne_true _ (λ less. none_before leaving (among ps once some k within)
        (inr (subst (λ (p : Point). point_lt leaving.to p ≡ true) leaves less))))

    edge_back : edge_of arriving ≡ record { a = at k; b = arriving.from }
    edge_back = ap (λ t. edge_by t arriving) back ∙ ap (λ p. record { a = p; b = arriving.from }) arrives

    edge_forward : edge_of leaving ≡ record { a = at k; b = leaving.to }
    edge_forward = ap (λ t. edge_by t leaving) forward ∙ ap (λ p. record { a = p; b = leaving.to }) leaves

    -- how the way back turns from the way on
    turned : edge_turn (edge_of leaving) (edge_of arriving) ≡ cross_at (at k) (at after) (at before)
    turned = ap₂ edge_turn edge_forward edge_back
        ∙ ap₂ (λ p q. cross_at (at k) p q) (stops k after within goes) (begins ps once some before before_within)

    -- each step along an edge that starts there is one of the two
    one_of_them : (x : Step) → Contains (steps_of ps) x → (edge_of x).a ≡ at k → (x ≡ leaving) ⊎ (x ≡ arriving)
    one_of_them x c starts = by (is_forward x) starts
      where
        by : (t : Bool) → (edge_by t x).a ≡ at k → (x ≡ leaving) ⊎ (x ≡ arriving)
        by true is = inl (one_begins ps once some x leaving c (among ps once some k within) (is ∙ sym leaves))
        by false is = inr (one_ends ps once some x arriving c (among ps once some before before_within)
            (is ∙ sym arrives))

    -- none of them is below one that turns so
    not_below : (e : Edge) → (edge_turn (edge_of leaving) e ≤ℤ pos 0) → (edge_turn (edge_of arriving) e ≤ℤ pos 0) →
        NoneTakenBelow (steps_of ps) (at k) e
    not_below e on back x c starts = ⊎_elim
        (λ is. subst (λ (s : Step). turns_left (edge_of s) e ≡ false) (sym is) (no_turn (edge_of leaving) on))
        (λ is. subst (λ (s : Step). turns_left (edge_of s) e ≡ false) (sym is) (no_turn (edge_of arriving) back))
        (one_of_them x c starts)
      where
        no_turn : (f : Edge) → (edge_turn f e ≤ℤ pos 0) → turns_left f e ≡ false
        no_turn f low = false_from_ne_true (turns_left f e)
            (λ t. let high = lt_from_test (pos 0) (edge_turn f e) t in omega linear)

    -- the way back below the way on: clockwise
    pub runs_clockwise : cross_at (at k) (at after) (at before) <ℤ pos 0 → RunsIn Clockwise ps
    runs_clockwise low = record {
      step = arriving;
      is_lowest = record {
        among = among ps once some before before_within;
        leftmost = subst (NoneHasEndBefore (steps_of ps)) (sym (ap (λ (f : Edge). f.a) edge_back)) none_before;
        lowest = subst (λ p. NoneTakenBelow (steps_of ps) p (edge_of arriving))
            (sym (ap (λ (f : Edge). f.a) edge_back))
            (not_below (edge_of arriving) (let t = turned in omega linear)
            (let t = edge_turn_same (edge_of arriving) in omega linear));
      };
      passed = sym (ap (λ t. cond t CounterClockwise Clockwise) back);
    }

    -- or not: counterclockwise
    pub runs_counterclockwise : (pos 0 ≤ℤ cross_at (at k) (at after) (at before)) → RunsIn CounterClockwise ps
    runs_counterclockwise high = record {
      step = leaving;
      is_lowest = record {
        among = among ps once some k within;
        leftmost = subst (NoneHasEndBefore (steps_of ps)) (sym (ap (λ (f : Edge). f.a) edge_forward)) none_before;
        lowest = subst (λ p. NoneTakenBelow (steps_of ps) p (edge_of leaving))
            (sym (ap (λ (f : Edge). f.a) edge_forward))
            (not_below (edge_of leaving) (let t = edge_turn_same (edge_of leaving) in omega linear)
            (let t = turned in let u = edge_turn_exchanged (edge_of arriving) (edge_of leaving) in omega linear));
      };
      passed = sym (ap (λ t. cond t CounterClockwise Clockwise) forward);
    }
