-- The winding changes across a step by the number of times that the steps taken walk along its edge, minus the number
-- of times back.
use Rattle.std.proofs.Common.{◌≡◌, ◌⊎◌, inl, inr, ⊎_elim, Bool, true, false, cond, not, ℤ, pos, negsuc, ◌+ℤ◌, ◌-ℤ◌}
use Rattle.std.proofs.Common.{◌*ℤ◌, List, Contains, refl, sym, ap, ap₂, ◌∙◌, subst, arith}
use Rattle.std.proofs.lemmas.Bool.{both_ways, false_from_ne_true}
use Rattle.std.proofs.lemmas.Int.{ints, by_lt_z}
use Rattle.overlay_geom.specs.Plane.{Point, Step, point_lt, edge_eq, step_eq, is_forward, edge_of, sign_of}
use Rattle.overlay_geom.specs.Plane.{reversed_step}
use Rattle.overlay_geom.specs.Edges.{CountedEdge}
use Rattle.overlay_geom.proofs.Orders.{edge_eq-same, edge_eq-itself}
use Rattle.overlay_geom.proofs.PointOrder.{IsBefore, IsUpTo, Decides-point_lt, by_order}
use Rattle.overlay_geom.proofs.Signs.{linear}
use Rattle.overlay_plane.specs.Turn.Hand.{left, right}
use Rattle.overlay_plane.specs.Regions.{one_if}
use Rattle.overlay_plane.specs.BesideOrbits.{count_along, winding_under, winding_beside, times_held, HasEachOnce}
use Rattle.overlay_plane.specs.BesideOrbits.{WindingAcrossAStep, WindingAcrossAlternatingSteps}
use Rattle.overlay_plane.proofs.Totals.{total-same, total-zero, total-sub}
use Rattle.overlay_plane.proofs.JoinedLists.{total-times}
use Rattle.overlay_plane.proofs.AtNodes.{same_steps, equal_steps, by_steps, no_way_back}
use Rattle.overlay_plane.proofs.EdgesOfSteps.{edge_by}
use Rattle.overlay_plane.proofs.StepTotals.{single_step_total}

-- of two different points exactly one is the smaller
way_back : (p q : Point) → ¬ (p ≡ q) → point_lt q p ≡ not (point_lt p q)
way_back p q apart = by (point_lt p q) refl
  where
    not_both : IsBefore p q → ¬ (IsBefore q p)
    not_both h k = let h_x = h.x in let k_x = k.x in let h_y = h.y k_x in let k_y = k.y h_x in omega linear

    at_one : p.x ≡ q.x → ¬ (p.y ≡ q.y)
    at_one same_x same_y = apart (λ i. record { x = same_x i; y = same_y i })

    strictly : IsUpTo q p → IsBefore q p
    strictly h = record {
      x = h.x;
      y = λ le. by_lt_z q.y p.y (λ less. less)
          (λ more. absurd (at_one (let low = h.x in omega linear) (let up = h.y le in omega linear)));
    }

    by : (t : Bool) → point_lt p q ≡ t → point_lt q p ≡ not t
    by true less = false_from_ne_true (point_lt q p)
        (λ more. not_both ((Decides-point_lt p q).0 less) ((Decides-point_lt q p).0 more))
    by false e = (Decides-point_lt q p).1
        (by_order q p strictly (λ less. absurd (both_ways (point_lt p q) e ((Decides-point_lt p q).1 less))))

-- a step along the edge of another step is equal to it, or leads back along it
pub one_of_two : (t s : Step) → edge_of t ≡ edge_of s → (t ≡ s) ⊎ (t ≡ reversed_step s)
one_of_two t s same = by (is_forward t) (is_forward s) same
  where
    by : (f g : Bool) → edge_by f t ≡ edge_by g s → (t ≡ s) ⊎ (t ≡ reversed_step s)
    by true true is = inl (λ i. record { from = (is i).a; to = (is i).b })
    by true false is = inr (λ i. record { from = (is i).a; to = (is i).b })
    by false true is = inr (λ i. record { from = (is i).b; to = (is i).a })
    by false false is = inl (λ i. record { from = (is i).b; to = (is i).a })

module _ (s : Step) (long : ¬ (s.from ≡ s.to)) where
  -- the step back leads forward where the step does not
  forward_back : is_forward (reversed_step s) ≡ not (is_forward s)
  forward_back = way_back s.from s.to long

  -- both walk along one edge
  one_edge : edge_of (reversed_step s) ≡ edge_of s
  one_edge = ap (λ t. edge_by t (reversed_step s)) forward_back ∙ by (is_forward s)
    where
      by : (t : Bool) → edge_by (not t) (reversed_step s) ≡ edge_by t s
      by true = refl
      by false = refl

  -- they are two steps
  two_steps : ¬ (s ≡ reversed_step s)
  two_steps same = long (ap (λ t. t.from) same)

  -- the count of a step along the edge of s
  abbrev counted : Step → ℤ
  counted t = cond (edge_eq (edge_of t) (edge_of s)) (sign_of t) (pos 0)

  -- the sign of s for s itself, the opposite for the step back, nothing for another step
  counted-is : (t : Step) → counted t ≡ sign_of s *ℤ (one_if (step_eq t s) -ℤ one_if (step_eq t (reversed_step s)))
  counted-is t = ⊎_elim
      (λ same. subst (λ u. counted u ≡ sign_of s *ℤ (one_if (step_eq u s) -ℤ one_if (step_eq u (reversed_step s))))
      (sym same) itself)
      (λ other. ⊎_elim
      (λ back. subst (λ u. counted u ≡ sign_of s *ℤ (one_if (step_eq u s) -ℤ one_if (step_eq u (reversed_step s))))
      (sym back) the_step_back)
      (λ neither. another other neither) (by_steps t (reversed_step s)))
      (by_steps t s)
    where
      apart : (t u : Step) → ¬ (t ≡ u) → step_eq t u ≡ false
      apart t u different = false_from_ne_true (step_eq t u) (λ same. different (same_steps t u same))

      itself : counted s ≡ sign_of s *ℤ (one_if (step_eq s s) -ℤ one_if (step_eq s (reversed_step s)))
      itself = ap (λ b. cond b (sign_of s) (pos 0)) (edge_eq-itself (edge_of s)) ∙ by (is_forward s)
          ∙ ap₂ (λ a b. sign_of s *ℤ (one_if a -ℤ one_if b)) (sym (equal_steps s s refl))
          (sym (apart s (reversed_step s) two_steps))
        where
          by : (t : Bool) → cond t (pos 1) (negsuc 0) ≡ cond t (pos 1) (negsuc 0) *ℤ (pos 1 -ℤ pos 0)
          by true = refl
          by false = refl

      the_step_back : counted (reversed_step s) ≡ sign_of s *ℤ (one_if (step_eq (reversed_step s) s) -ℤ one_if
          (step_eq (reversed_step s) (reversed_step s)))
      the_step_back = ap (λ e. cond (edge_eq e (edge_of s)) (sign_of (reversed_step s)) (pos 0)) one_edge
          ∙ ap (λ b. cond b (sign_of (reversed_step s)) (pos 0)) (edge_eq-itself (edge_of s))
          ∙ ap (λ b. cond b (pos 1) (negsuc 0)) forward_back ∙ by (is_forward s)
          ∙ ap₂ (λ a b. sign_of s *ℤ (one_if a -ℤ one_if b))
          (sym (apart (reversed_step s) s (λ same. two_steps (sym same))))
          (sym (equal_steps (reversed_step s) (reversed_step s) refl))
        where
          by : (t : Bool) → cond (not t) (pos 1) (negsuc 0) ≡ cond t (pos 1) (negsuc 0) *ℤ (pos 0 -ℤ pos 1)
          by true = refl
          by false = refl

      another : ¬ (t ≡ s) → ¬ (t ≡ reversed_step s) →
          counted t ≡ sign_of s *ℤ (one_if (step_eq t s) -ℤ one_if (step_eq t (reversed_step s)))
      another other neither =
          ap (λ b. cond b (sign_of t) (pos 0))
          (false_from_ne_true (edge_eq (edge_of t) (edge_of s))
          (λ same. ⊎_elim other neither (one_of_two t s (edge_eq-same (edge_of t) (edge_of s) same))))
          ∙ by (is_forward s)
          ∙ ap₂ (λ a b. sign_of s *ℤ (one_if a -ℤ one_if b)) (sym (apart t s other))
          (sym (apart t (reversed_step s) neither))
        where
          by : (t : Bool) → pos 0 ≡ cond t (pos 1) (negsuc 0) *ℤ (pos 0 -ℤ pos 0)
          by true = refl
          by false = refl

  module _ (taken : List Step) where
    -- the count along the edge of s is how often s is taken minus how often it is taken back, with the sign of s
    count_along-is : count_along taken (edge_of s) ≡ sign_of s *ℤ
        (times_held taken s -ℤ times_held taken (reversed_step s))
    count_along-is = total-same counted
        (λ t. sign_of s *ℤ (one_if (step_eq t s) -ℤ one_if (step_eq t (reversed_step s)))) taken (λ t c. counted-is t)
        ∙ total-times (sign_of s) (λ t. one_if (step_eq t s) -ℤ one_if (step_eq t (reversed_step s))) taken
        ∙ ap (λ z. sign_of s *ℤ z) (total-sub (λ t. one_if (step_eq t s)) (λ t. one_if (step_eq t (reversed_step s)))
        taken)

    -- across a step
    pub across : (es : List CountedEdge) → winding_beside left es taken s ≡ winding_beside right es taken s +ℤ
        (times_held taken s -ℤ times_held taken (reversed_step s))
    across es = by (is_forward s) (winding_under es taken (edge_of s)) (count_along taken (edge_of s))
        (times_held taken s -ℤ times_held taken (reversed_step s)) count_along-is
      where
        by : (t : Bool) (under c d : ℤ) → c ≡ cond t (pos 1) (negsuc 0) *ℤ d → cond t (under +ℤ c) under ≡ cond t under
            (under +ℤ c) +ℤ d
        by true under c d is = omega (arith, ints)
        by false under c d is = omega (arith, ints)

-- for each step
pub winding_across_a_step : WindingAcrossAStep
winding_across_a_step es taken s long = across s long taken es

-- ---- where no step is taken twice

-- a step that is not taken is held 0 times
pub none_held : (taken : List Step) (s : Step) → ¬ (Contains taken s) → times_held taken s ≡ pos 0
none_held taken s none = total-zero (λ t. one_if (step_eq t s)) taken
    (λ t c. ap one_if (false_from_ne_true (step_eq t s)
    (λ same. none (subst (λ u. Contains taken u) (same_steps t s same) c))))

-- a step that is taken once is held once
pub one_held : (taken : List Step) → HasEachOnce taken → (s : Step) → Contains taken s → times_held taken s ≡ pos 1
one_held taken once s c = single_step_total taken once (λ t. pos 1) s c

-- in a set that alternates, a step is taken or not, and not taken back
pub winding_across_alternating_steps : WindingAcrossAlternatingSteps
winding_across_alternating_steps es steps taken alternates inside = record {
  rises = λ once s c. across s (alternates.long s (inside s c)) taken es
      ∙ ap₂ (λ a b. winding_beside right es taken s +ℤ (a -ℤ b)) (one_held taken once s c)
      (none_held taken (reversed_step s) (none_back s (inside s c)));
  stays = λ s c none. across s (alternates.long s c) taken es
      ∙ ap₂ (λ a b. winding_beside right es taken s +ℤ (a -ℤ b)) (none_held taken s none)
      (none_held taken (reversed_step s) (none_back s c))
      ∙ as_it_was (winding_beside right es taken s);
}
  where
    none_back : (s : Step) → Contains steps s → ¬ (Contains taken (reversed_step s))
    none_back s c back = no_way_back steps alternates s (reversed_step s) c (inside (reversed_step s) back) refl refl

    as_it_was : (z : ℤ) → z +ℤ (pos 0 -ℤ pos 0) ≡ z
    as_it_was z = omega linear
