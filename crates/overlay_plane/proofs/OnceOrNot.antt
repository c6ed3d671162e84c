-- Steps that have their winding once on their filled sides, none of them twice, wind once or zero times round each
-- point, also where some are passed there and back: as the region of the rule that the winding is once.
use Rattle.std.proofs.Common.{◌≡◌, ◌⊎◌, inl, inr, ⊎_elim, Bool, true, false, cond, ℤ, pos, negsuc, ◌+ℤ◌, ◌-ℤ◌, ◌*ℤ◌}
use Rattle.std.proofs.Common.{List, Contains, refl, sym, ap, ap₂, ◌∙◌}
use Rattle.std.specs.Ordering.{int_eq}
use Rattle.std.proofs.lemmas.Bool.{both_ways}
use Rattle.std.proofs.lemmas.List.Elements.{All-contains}
use lib.IntN.{*ℤ-zero}
use Rattle.overlay_geom.specs.Plane.{Step, point_lt, is_strictly_below, winding}
use Rattle.overlay_geom.specs.Edges.{CountedEdge, ends_of, winding_by}
use Rattle.overlay_geom.proofs.Identities.{solve, number, ◌⊗◌, ◌≗◌}
use Rattle.overlay_geom.proofs.Signs.{linear}
use Rattle.overlay_plane.specs.Turn.{Hand}
use Rattle.overlay_plane.specs.Turn.Hand.{left, right}
use Rattle.overlay_plane.specs.Orbits.{is_step_of}
use Rattle.overlay_plane.specs.Regions.{one_if, selected_sign, IsRuled}
use Rattle.overlay_plane.specs.SelectedSteps.{step_with_left}
use Rattle.overlay_plane.specs.BesideOrbits.{count_on, winding_under, winding_over, winding_beside}
use Rattle.overlay_plane.specs.BesideOrbits.{times_held, WalksAlong, IsBalancedPart, HasEachOnce}
use Rattle.overlay_plane.specs.ContourWindings.{once_round}
use Rattle.overlay_plane.specs.ShapesAlone.{WindsOnceOrNot}
use Rattle.overlay_plane.proofs.BesideAcross.{winding_across_a_step, none_held, one_held}
use Rattle.overlay_plane.proofs.CountedSteps.{winding_counted}
use Rattle.overlay_plane.proofs.HoleWindings.{filled_over, empty_below}
use Rattle.overlay_plane.proofs.JoinedLists.{total-times, times_taken}
use Rattle.overlay_plane.proofs.OrbitsApart.{is_step_of_decides}
use Rattle.overlay_plane.proofs.RegionBelow.{region_from_selected_signs}
use Rattle.overlay_plane.proofs.SameWay.{ends_differ}
use Rattle.overlay_plane.proofs.SelectedWindings.{along_edge, forward_above}
use Rattle.overlay_plane.proofs.StartWindings.{empty_over, filled_under}
use Rattle.overlay_plane.proofs.Totals.{total-same}

-- the winding is once
abbrev is_once : Hand → ℤ → ℤ → Bool
is_once filled v w = int_eq v (once_round filled)

-- the sign, k times, of an edge with these numbers below it and along it, where the rule is that a number is k
abbrev signed : (k under count : ℤ) → ℤ
signed k under count = k *ℤ (one_if (int_eq (under +ℤ count) k) -ℤ one_if (int_eq under k))

-- it is the count, where it is that of the same numbers
by_numbers : (k under count u c : ℤ) → under ≡ u → count ≡ c → c ≡ signed k u c → count ≡ signed k under count
by_numbers k under count u c is_u is_c h = is_c ∙ h ∙ sym (ap₂ (λ a b. signed k a b) is_u is_c)

-- so where nothing counts
sign_none : (k under count : ℤ) → count ≡ pos 0 → count ≡ signed k under count
sign_none k under count none = none ∙ sym (ap (λ c. signed k under c) none
    ∙ ap (λ u. k *ℤ (one_if (int_eq u k) -ℤ one_if (int_eq under k))) (as_it_was under)
    ∙ ap (λ z. k *ℤ z) (nothing_left (one_if (int_eq under k))) ∙ *ℤ-zero k)
  where
    as_it_was : (z : ℤ) → z +ℤ pos 0 ≡ z
    as_it_was z = omega linear

    nothing_left : (z : ℤ) → z -ℤ z ≡ pos 0
    nothing_left z = omega linear

-- an edge counts for the step along it and against the step back: where the winding is once on their left sides
signed_left : (forth back : Bool) (under count : ℤ) → count ≡ one_if forth -ℤ one_if back →
    (forth ≡ true → under +ℤ count ≡ pos 1) → (back ≡ true → under ≡ pos 1) → count ≡ signed (pos 1) under count
signed_left true true under count is on_forth on_back =
    by_numbers (pos 1) under count (pos 1) (pos 0) (on_back refl) is refl
signed_left true false under count is on_forth on_back = along (on_forth refl)
  where
    along : under +ℤ count ≡ pos 1 → count ≡ signed (pos 1) under count
    along over = by_numbers (pos 1) under count (pos 0) (pos 1) (omega linear) is refl
signed_left false true under count is on_forth on_back =
    by_numbers (pos 1) under count (pos 1) (negsuc 0) (on_back refl) is refl
signed_left false false under count is on_forth on_back = sign_none (pos 1) under count is

-- and where it is on their right sides
signed_right : (forth back : Bool) (under count : ℤ) → count ≡ one_if forth -ℤ one_if back →
    (forth ≡ true → under ≡ negsuc 0) → (back ≡ true → under +ℤ count ≡ negsuc 0) →
    count ≡ signed (negsuc 0) under count
signed_right true true under count is on_forth on_back =
    by_numbers (negsuc 0) under count (negsuc 0) (pos 0) (on_forth refl) is refl
signed_right true false under count is on_forth on_back =
    by_numbers (negsuc 0) under count (negsuc 0) (pos 1) (on_forth refl) is refl
signed_right false true under count is on_forth on_back = against (on_back refl)
  where
    against : under +ℤ count ≡ negsuc 0 → count ≡ signed (negsuc 0) under count
    against over = by_numbers (negsuc 0) under count (pos 0) (negsuc 0) (omega linear) is refl
signed_right false false under count is on_forth on_back = sign_none (negsuc 0) under count is

-- a number that is 1 or 0 times a number is that number or 0
once_or_none : (t : Bool) (k : ℤ) → (k *ℤ one_if t ≡ k) ⊎ (k *ℤ one_if t ≡ pos 0)
once_or_none true k = inl (solve 1 (λ a. a ⊗ number (pos 1) ≗ a) tt k)
once_or_none false k = inr (*ℤ-zero k)

module _ (es : List CountedEdge) (steps : List Step) (along : WalksAlong es steps) (filled : Hand) (taken : List Step)
    (part : IsBalancedPart es steps taken) (once : HasEachOnce taken)
    (beside : (s : Step) → Contains taken s → winding_beside filled es taken s ≡ once_round filled) where
  ruled : IsRuled (is_once filled) (count_on taken) (count_on taken) es
  ruled = record {
    planar = along.planar;
    subj_balanced = part.balanced;
    clip_balanced = part.balanced;
    none = by filled;
  }
    where
      by : (h : Hand) → int_eq (pos 0) (once_round h) ≡ false
      by left = refl
      by right = refl

  -- a step is held once where it is taken
  held : (s : Step) → times_held taken s ≡ one_if (is_step_of taken s)
  held s = by (is_step_of taken s) refl
    where
      by : (t : Bool) → is_step_of taken s ≡ t → times_held taken s ≡ one_if t
      by true is = one_held taken once s ((is_step_of_decides taken s).0 is)
      by false is = none_held taken s
          (λ c. both_ways (is_step_of taken s) is ((is_step_of_decides taken s).1 c))

  module _ (e : CountedEdge) (at : Contains es e) where
    -- the step along the edge, and the step back
    abbrev forth : Step
    forth = step_with_left true (ends_of e)

    abbrev back : Step
    back = step_with_left false (ends_of e)

    leads : point_lt e.a e.b ≡ true
    leads = All-contains (λ f. point_lt f.a f.b ≡ true) es e along.planar.forward at

    over_left : winding_beside left es taken forth ≡ winding_over es taken (ends_of e)
    over_left = filled_over left es taken forth (forward_above (ends_of e) leads true)
        ∙ ap (λ f. winding_over es taken f) (along_edge (ends_of e) leads true)

    under_right : winding_beside right es taken forth ≡ winding_under es taken (ends_of e)
    under_right = empty_below left es taken forth (forward_above (ends_of e) leads true)
        ∙ ap (λ f. winding_under es taken f) (along_edge (ends_of e) leads true)

    under_left : winding_beside left es taken back ≡ winding_under es taken (ends_of e)
    under_left = filled_under left es taken back (forward_above (ends_of e) leads false)
        ∙ ap (λ f. winding_under es taken f) (along_edge (ends_of e) leads false)

    over_right : winding_beside right es taken back ≡ winding_over es taken (ends_of e)
    over_right = empty_over left es taken back (forward_above (ends_of e) leads false)
        ∙ ap (λ f. winding_over es taken f) (along_edge (ends_of e) leads false)

    -- it counts for one and against the other
    counts : count_on taken e ≡ one_if (is_step_of taken forth) -ℤ one_if (is_step_of taken back)
    counts = lone (winding_under es taken (ends_of e)) (count_on taken e)
        (one_if (is_step_of taken forth) -ℤ one_if (is_step_of taken back))
        (sym over_left
        ∙ winding_across_a_step es taken forth (ends_differ (ends_of e) leads)
        ∙ ap₂ (λ a b. a +ℤ b) under_right (ap₂ (λ a b. a -ℤ b) (held forth) (held back)))
      where
        lone : (u c d : ℤ) → u +ℤ c ≡ u +ℤ d → c ≡ d
        lone u c d same = omega linear

    -- so its count is its sign, once round
    sign_of_edge : count_on taken e ≡
        once_round filled *ℤ selected_sign (is_once filled) (count_on taken) (count_on taken) es e
    sign_of_edge = by filled beside
      where
        by : (h : Hand) → ((s : Step) → Contains taken s → winding_beside h es taken s ≡ once_round h) →
            count_on taken e ≡ signed (once_round h) (winding_under es taken (ends_of e)) (count_on taken e)
        by left on = signed_left (is_step_of taken forth) (is_step_of taken back) (winding_under es taken (ends_of e))
            (count_on taken e) counts
            (λ is. sym over_left ∙ on forth ((is_step_of_decides taken forth).0 is))
            (λ is. sym under_left ∙ on back ((is_step_of_decides taken back).0 is))
        by right on = signed_right (is_step_of taken forth) (is_step_of taken back)
            (winding_under es taken (ends_of e)) (count_on taken e) counts
            (λ is. sym under_right ∙ on forth ((is_step_of_decides taken forth).0 is))
            (λ is. sym over_right ∙ on back ((is_step_of_decides taken back).0 is))

  -- the steps wind once or zero times
  pub winds_once_or_not : WindsOnceOrNot filled taken
  winds_once_or_not p =
      ⊎_elim (λ is. inl (same ∙ is)) (λ is. inr (same ∙ is))
      (once_or_none (is_once filled (winding_by (count_on taken) es p) (winding_by (count_on taken) es p))
      (once_round filled))
    where
      same : winding taken p ≡ once_round filled *ℤ
          one_if (is_once filled (winding_by (count_on taken) es p) (winding_by (count_on taken) es p))
      same = winding_counted es steps along taken part.inside p
          ∙ total-same (λ e. cond (is_strictly_below (ends_of e) p) (count_on taken e) (pos 0))
          (λ e. once_round filled *ℤ cond (is_strictly_below (ends_of e) p)
          (selected_sign (is_once filled) (count_on taken) (count_on taken) es e) (pos 0)) es
          (λ e c. ap (λ z. cond (is_strictly_below (ends_of e) p) z (pos 0)) (sign_of_edge e c)
          ∙ sym (times_taken (is_strictly_below (ends_of e) p) (once_round filled)
          (selected_sign (is_once filled) (count_on taken) (count_on taken) es e)))
          ∙ total-times (once_round filled) (λ e. cond (is_strictly_below (ends_of e) p)
          (selected_sign (is_once filled) (count_on taken) (count_on taken) es e) (pos 0)) es
          ∙ ap (λ z. once_round filled *ℤ z)
          (region_from_selected_signs (is_once filled) (count_on taken) (count_on taken) es ruled p)
