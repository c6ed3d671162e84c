-- Where a line ends at the border of all edges, nothing winds between a side that lies beyond the line, or behind on
-- it, and the first one behind the line that a ray meets from there, turning by the left hand.
use lib.IntN.{*ℤ_comm}
use Rattle.std.proofs.Common.{◌≡◌, inl, inr, ⊎_elim, Bool, true, false, cond, ◌&&◌, ℤ, pos, ◌+ℤ◌, ◌-ℤ◌, ◌*ℤ◌}
use Rattle.std.proofs.Common.{◌<ℤ◌, ◌≤ℤ◌, int_lt, int_le, List, Contains, sym, ap, ap₂, ◌∙◌, subst, arith}
use Rattle.std.proofs.lemmas.Bool.{both_ways, false_from_ne_true, and_parts}
use Rattle.std.proofs.lemmas.Int.{by_lt_z}
use Rattle.overlay_geom.specs.Plane.{Point, Edge, cross_at, in_plane, is_strictly_below, point_eq, side, total}
use Rattle.overlay_geom.specs.Edges.{CountedEdge, ends_of, winding_by, winding_below}
use Rattle.overlay_geom.proofs.Identities.{solve, number, ◌⊕◌, ◌⊗◌, ◌⊖◌, ◌≗◌}
use Rattle.overlay_geom.proofs.Orders.{point_eq-same, point_eq-of_same}
use Rattle.overlay_geom.proofs.Signs.{linear, by_sign, mul-neg, mul-zero, mul-nonneg, mul-nonpos}
use Rattle.overlay_geom.proofs.Signs.{zero_of_mul-zero}
use Rattle.overlay_plane.specs.Nodes.{IsBalancedArrangement, edge_turn, turns_left}
use Rattle.overlay_plane.specs.Spokes.{IsSpoke, far_end}
use Rattle.overlay_plane.specs.Turn.{turn, dot_at, is_met_before, part_of_turn, IsMetBefore}
use Rattle.overlay_plane.specs.Turn.Hand.{left}
use Rattle.overlay_plane.proofs.NodeWindings.{winding_from_a_start, winding_from_an_end}
use Rattle.overlay_plane.proofs.SpokeWindings.{not_start}
use Rattle.overlay_plane.proofs.Tests.{lt_from_test, le_from_test}
use Rattle.overlay_plane.proofs.Totals.{total-zero}
use Rattle.overlay_plane.proofs.TurnOrder.{part_late, part_opposite, part_again, first_by_part, first_by_turn}
use Rattle.overlay_plane.proofs.Turning.{both_negative}
use Rattle.overlay_tiles.proofs.Axes.{IsBehind, IsBeyond, of_uprights, of_levels, early_first}

-- a sum of numbers that count only where a test passes is zero where it never does
pub none_counted : (test : CountedEdge → Bool) (count : CountedEdge → ℤ) (es : List CountedEdge) →
    ((m : CountedEdge) → Contains es m → ¬ (test m ≡ true)) → total (λ m. cond (test m) (count m) (pos 0)) es ≡ pos 0
none_counted test count es none = total-zero (λ m. cond (test m) (count m) (pos 0)) es
    (λ m at. ap (λ t. cond t (count m) (pos 0)) (false_from_ne_true (test m) (none m at)))

-- the turn between two edges that start in a point, and between two that end there
turn_of_starting : (v : Point) (e f : Edge) → e.a ≡ v → f.a ≡ v → edge_turn f e ≡ cross_at v f.b e.b
turn_of_starting v e f at_e at_f = ap₂ (λ (p q : Point).
    (f.b.x -ℤ q.x) *ℤ (e.b.y -ℤ p.y) -ℤ (f.b.y -ℤ q.y) *ℤ (e.b.x -ℤ p.x)) at_e at_f

turn_of_ending : (v : Point) (e f : Edge) → e.b ≡ v → f.b ≡ v → edge_turn e f ≡ cross_at v e.a f.a
turn_of_ending v e f at_e at_f = ap₂ (λ (p q : Point).
    (p.x -ℤ e.a.x) *ℤ (q.y -ℤ f.a.y) -ℤ (p.y -ℤ e.a.y) *ℤ (q.x -ℤ f.a.x)) at_e at_f
    ∙ solve 6 (λ vx vy ax ay bx by. (vx ⊖ ax) ⊗ (vy ⊖ by) ⊖ (vy ⊖ ay) ⊗ (vx ⊖ bx)
    ≗ (ax ⊖ vx) ⊗ (by ⊖ vy) ⊖ (ay ⊖ vy) ⊗ (bx ⊖ vx)) tt v.x v.y e.a.x e.a.y f.a.x f.a.y

module _ (count : CountedEdge → ℤ) (es : List CountedEdge) (arranged : IsBalancedArrangement count es)
    (v u w : Point) (none : (m : CountedEdge) → IsSpoke es v m → is_met_before left v u (far_end v m) w ≡ false) where
  -- ---- at the lower border, from a side along an edge that starts there

  module _ (lowest : (m : CountedEdge) → Contains es m → (v.y ≤ℤ m.a.y) × (v.y ≤ℤ m.b.y)) where
    -- no edge is below the node
    none_below : (m : CountedEdge) → Contains es m → ¬ (is_strictly_below (ends_of m) (in_plane v) ≡ true)
    none_below m at h =
        let parts = and_parts _ (int_lt (pos 0) (side (ends_of m) (in_plane v))) h in
        let more = and_parts (int_le (m.a.x *ℤ pos 1) v.x) (int_lt v.x (m.b.x *ℤ pos 1)) parts.0 in
        let from = le_from_test (m.a.x *ℤ pos 1) v.x more.0 in
        let to = lt_from_test v.x (m.b.x *ℤ pos 1) more.1 in
        let over = lt_from_test (pos 0) (side (ends_of m) (in_plane v)) parts.1 in
        let ax = solve 1 (λ z. z ⊗ number (pos 1) ≗ z) tt m.a.x in
        let bx = solve 1 (λ z. z ⊗ number (pos 1) ≗ z) tt m.b.x in
        let low = lowest m at in
        let low_a = low.0 in
        let low_b = low.1 in
        let one = mul-nonpos (m.b.x -ℤ v.x) (v.y -ℤ m.a.y) (omega linear) (omega linear) in
        let other = mul-nonpos (v.x -ℤ m.a.x) (v.y -ℤ m.b.y) (omega linear) (omega linear) in
        let sum = solve 6 (λ ax ay bx by x y.
        (bx ⊖ ax) ⊗ (y ⊖ ay ⊗ number (pos 1)) ⊖ (by ⊖ ay) ⊗ (x ⊖ ax ⊗ number (pos 1))
        ≗ (bx ⊖ x) ⊗ (y ⊖ ay) ⊕ (x ⊖ ax) ⊗ (y ⊖ by)) tt m.a.x m.a.y m.b.x m.b.y v.x v.y in
        absurd (omega linear)

    module _ (e : CountedEdge) (at : Contains es e) (starts : e.a ≡ v) (ends : e.b ≡ u)
        (beyond : IsBeyond of_uprights v u) (behind : IsBehind of_uprights v w) (w_high : v.y ≤ℤ w.y) where
      u_right : v.x ≤ℤ u.x
      u_right = ⊎_elim (λ past. omega linear) (λ level. let same = level.0 in omega linear) beyond

      w_left : w.x ≤ℤ v.x
      w_left = ⊎_elim (λ before. omega linear) (λ level. let same = level.0 in omega linear) behind

      u_high : v.y ≤ℤ u.y
      u_high = subst (λ (p : Point). v.y ≤ℤ p.y) ends (lowest e at).1

      -- w is not met within the first half turn
      w_late : ¬ (pos 0 <ℤ turn left v u w)
      w_late early =
          let right = u_right in
          let left_of = w_left in
          let high = u_high in
          let one = mul-nonpos (u.y -ℤ v.y) (w.x -ℤ v.x) (omega linear) (omega linear) in
          let same = *ℤ_comm (u.y -ℤ v.y) (w.x -ℤ v.x) in
          let other = mul-nonneg (w.y -ℤ v.y) (u.x -ℤ v.x) (omega linear) (omega linear) in
          omega linear

      -- an edge to the right that starts there would be met before w
      none_right : (f : CountedEdge) → Contains es f →
          ¬ ((point_eq f.a e.a && turns_left (ends_of f) (ends_of e)) ≡ true)
      none_right f at_f h =
          let parts = and_parts (point_eq f.a e.a) _ h in
          let same : f.a ≡ v = point_eq-same f.a e.a parts.0 ∙ starts in
          let turned = lt_from_test (pos 0) (edge_turn (ends_of f) (ends_of e)) parts.1 in
          let is = turn_of_starting v (ends_of e) (ends_of f) starts same ∙ ap (cross_at v f.b) ends in
          let far : far_end v f ≡ f.b = ap (λ t. cond t f.b f.a) (point_eq-of_same f.a v same) in
          both_ways (is_met_before left v u (far_end v f) w) (none f (record { entry = at_f; at = inl same }))
          (subst (λ (p : Point). IsMetBefore left v u p w) (sym far)
          (early_first v u f.b w (omega linear) (λ early. absurd (w_late early))))

      pub winds_not_at_bottom : winding_below count es e ≡ pos 0
      winds_not_at_bottom =
          let from_start = winding_from_a_start count es arranged e at in
          let at_v = ap (λ (p : Point). winding_by count es (in_plane p)) starts in
          let below = none_counted (λ m. is_strictly_below (ends_of m) (in_plane v)) count es none_below in
          let right = none_counted (λ f. point_eq f.a e.a && turns_left (ends_of f) (ends_of e)) count es none_right in
          from_start ∙ ap₂ (λ a b. a +ℤ b) (at_v ∙ below) right

  -- ---- at the right border, to a side along an edge that ends there

  module _ (rightmost : (m : CountedEdge) → Contains es m → (m.a.x ≤ℤ v.x) × (m.b.x ≤ℤ v.x)) where
    -- no edge has the node in its span
    none_there : (m : CountedEdge) → Contains es m → ¬ (is_strictly_below (ends_of m) (in_plane v) ≡ true)
    none_there m at h =
        let parts = and_parts _ (int_lt (pos 0) (side (ends_of m) (in_plane v))) h in
        let more = and_parts (int_le (m.a.x *ℤ pos 1) v.x) (int_lt v.x (m.b.x *ℤ pos 1)) parts.0 in
        let to = lt_from_test v.x (m.b.x *ℤ pos 1) more.1 in
        let bx = solve 1 (λ z. z ⊗ number (pos 1) ≗ z) tt m.b.x in
        let right = (rightmost m at).1 in
        absurd (omega linear)

    module _ (g : CountedEdge) (at : Contains es g) (starts : g.a ≡ w) (ends : g.b ≡ v)
        (beyond : IsBeyond of_levels v u) (behind : IsBehind of_levels v w) (u_left : u.x ≤ℤ v.x) where
      w_left_too : w.x ≤ℤ v.x
      w_left_too = subst (λ (p : Point). p.x ≤ℤ v.x) starts (rightmost g at).0

      w_low : w.y ≤ℤ v.y
      w_low = ⊎_elim (λ before. omega linear) (λ level. let same = level.0 in omega linear) behind

      -- the turn to p and to w, and between them
      module _ (p : Point) (p_left : p.x ≤ℤ v.x) (onward : pos 0 <ℤ turn left v p w) where
        low_product : pos 0 ≤ℤ ((w.y -ℤ v.y) *ℤ (p.x -ℤ v.x))
        low_product =
            let low = w_low in
            let one = mul-nonpos (v.x -ℤ p.x) (w.y -ℤ v.y) (omega linear) (omega linear) in
            let same = solve 4 (λ vx px wy vy. (wy ⊖ vy) ⊗ (px ⊖ vx) ≗ number (pos 0) ⊖ (vx ⊖ px) ⊗ (wy ⊖ vy)) tt
            v.x p.x w.y v.y in
            omega linear

        crossed : pos 0 <ℤ ((w.x -ℤ v.x) *ℤ (p.y -ℤ v.y))
        crossed = let product = low_product in omega linear

        w_far : w.x <ℤ v.x
        w_far = by_lt_z w.x v.x (λ less. less) (λ ge.
            let some = crossed in
            let left_of = w_left_too in
            let none_left = mul-zero (p.y -ℤ v.y) (w.x -ℤ v.x) (omega linear) in
            let same = *ℤ_comm (p.y -ℤ v.y) (w.x -ℤ v.x) in
            absurd (omega linear))

        p_low : p.y <ℤ v.y
        p_low = by_lt_z p.y v.y (λ less. less) (λ ge.
            let some = crossed in
            let far = w_far in
            let one = mul-nonneg (p.y -ℤ v.y) (v.x -ℤ w.x) (omega linear) (omega linear) in
            let same = solve 4 (λ wx vx py vy. (wx ⊖ vx) ⊗ (py ⊖ vy) ≗ number (pos 0) ⊖ (py ⊖ vy) ⊗ (vx ⊖ wx)) tt
            w.x v.x p.y v.y in
            absurd (omega linear))

        -- from above the line
        from_above : v.y <ℤ u.y → IsMetBefore left v u p w
        from_above above =
            by_sign (turn left v u p)
            (λ late_p. first_by_turn (part_of_turn left v u p) (part_of_turn left v u w) (turn left v p w)
            (part_late (turn left v u p) (dot_at v u p) late_p
            ∙ sym (part_late (turn left v u w) (dot_at v u w) late_w)) onward)
            (λ level. first_by_part (part_of_turn left v u p) (part_of_turn left v u w) (turn left v p w)
            (let here = part_opposite (turn left v u p) (dot_at v u p) level (opposite level) in
            let there = part_late (turn left v u w) (dot_at v u w) late_w in omega arith))
            (λ early. let h = not_early in absurd (omega linear))
          where
            -- (p.x - v.x) (u.y - v.y) is at most 0, and (p.y - v.y) (u.x - v.x) at least 0
            one_part : ((p.x -ℤ v.x) *ℤ (u.y -ℤ v.y)) ≤ℤ pos 0
            one_part = let product = mul-nonpos (u.y -ℤ v.y) (p.x -ℤ v.x) (omega linear) (omega linear) in
                let same = *ℤ_comm (u.y -ℤ v.y) (p.x -ℤ v.x) in omega linear

            other_part : pos 0 ≤ℤ ((p.y -ℤ v.y) *ℤ (u.x -ℤ v.x))
            other_part =
                let low = p_low in
                let product = mul-nonneg (v.y -ℤ p.y) (v.x -ℤ u.x) (omega linear) (omega linear) in
                let same = solve 4 (λ py vy ux vx. (py ⊖ vy) ⊗ (ux ⊖ vx) ≗ (vy ⊖ py) ⊗ (vx ⊖ ux)) tt p.y v.y u.x v.x in
                omega linear

            not_early : turn left v u p ≤ℤ pos 0
            not_early = let one = one_part in let other = other_part in omega linear

            late_w : turn left v u w <ℤ pos 0
            late_w =
                let far = w_far in
                let low = w_low in
                let one = mul-neg (u.y -ℤ v.y) (w.x -ℤ v.x) (omega linear) (omega linear) in
                let same = *ℤ_comm (u.y -ℤ v.y) (w.x -ℤ v.x) in
                let product = mul-nonneg (v.y -ℤ w.y) (v.x -ℤ u.x) (omega linear) (omega linear) in
                let also = solve 4 (λ wy vy ux vx. (wy ⊖ vy) ⊗ (ux ⊖ vx) ≗ (vy ⊖ wy) ⊗ (vx ⊖ ux)) tt w.y v.y u.x v.x in
                omega linear

            opposite : turn left v u p ≡ pos 0 → dot_at v u p <ℤ pos 0
            opposite level =
                let one = one_part in
                let other = other_part in
                let low = p_low in
                let u_none : v.x -ℤ u.x ≡ pos 0 = zero_of_mul-zero (v.y -ℤ p.y) (v.x -ℤ u.x) (omega linear)
                (let same = solve 4 (λ py vy ux vx. (py ⊖ vy) ⊗ (ux ⊖ vx) ≗ (vy ⊖ py) ⊗ (vx ⊖ ux)) tt p.y v.y u.x v.x in
                omega linear) in
                let down = mul-neg (u.y -ℤ v.y) (p.y -ℤ v.y) (omega linear) (omega linear) in
                let aside = mul-zero (p.x -ℤ v.x) (u.x -ℤ v.x) (omega linear) in
                let same = *ℤ_comm (p.x -ℤ v.x) (u.x -ℤ v.x) in
                omega linear

        -- from behind on the line
        from_left : u.y ≡ v.y → u.x <ℤ v.x → IsMetBefore left v u p w
        from_left level less =
            by_sign (turn left v u w)
            (λ late_w. first_by_turn (part_of_turn left v u p) (part_of_turn left v u w) (turn left v p w)
            (part_late (turn left v u p) (dot_at v u p) late_p
            ∙ sym (part_late (turn left v u w) (dot_at v u w) late_w)) onward)
            (λ none_w. first_by_part (part_of_turn left v u p) (part_of_turn left v u w) (turn left v p w)
            (let here = part_late (turn left v u p) (dot_at v u p) late_p in
            let there = part_again (turn left v u w) (dot_at v u w) none_w again in omega arith))
            (λ early. let h = not_early in absurd (omega linear))
          where
            flat : (q : Point) → (q.x -ℤ v.x) *ℤ (u.y -ℤ v.y) ≡ pos 0
            flat q = mul-zero (q.x -ℤ v.x) (u.y -ℤ v.y) (omega linear)

            late_p : turn left v u p <ℤ pos 0
            late_p =
                let none = flat p in
                let low = p_low in
                let product = both_negative (p.y -ℤ v.y) (u.x -ℤ v.x) (omega linear) (omega linear) in
                omega linear

            not_early : turn left v u w ≤ℤ pos 0
            not_early =
                let none = flat w in
                let low = w_low in
                let product = mul-nonneg (v.y -ℤ w.y) (v.x -ℤ u.x) (omega linear) (omega linear) in
                let also = solve 4 (λ wy vy ux vx. (wy ⊖ vy) ⊗ (ux ⊖ vx) ≗ (vy ⊖ wy) ⊗ (vx ⊖ ux)) tt w.y v.y u.x v.x in
                omega linear

            again : pos 0 ≤ℤ dot_at v u w
            again =
                let far = w_far in
                let product = both_negative (u.x -ℤ v.x) (w.x -ℤ v.x) (omega linear) (omega linear) in
                let none = mul-zero (w.y -ℤ v.y) (u.y -ℤ v.y) (omega linear) in
                let same = *ℤ_comm (w.y -ℤ v.y) (u.y -ℤ v.y) in
                omega linear

        under_met_first : IsMetBefore left v u p w
        under_met_first = by beyond
          where
            by : IsBeyond of_levels v u → IsMetBefore left v u p w
            by (inl above) = from_above above
            by (inr (level, less)) = from_left level less

      -- an edge under it that ends there would be met before w
      none_under : (f : CountedEdge) → Contains es f →
          ¬ ((point_eq f.b g.b && turns_left (ends_of g) (ends_of f)) ≡ true)
      none_under f at_f h =
          let parts = and_parts (point_eq f.b g.b) _ h in
          let same : f.b ≡ v = point_eq-same f.b g.b parts.0 ∙ ends in
          let turned = lt_from_test (pos 0) (edge_turn (ends_of g) (ends_of f)) parts.1 in
          let is = turn_of_ending v (ends_of g) (ends_of f) ends same ∙ ap (λ (p : Point). cross_at v p f.a) starts in
          let far : far_end v f ≡ f.a = ap (λ t. cond t f.b f.a) (not_start count es arranged v f at_f same) in
          both_ways (is_met_before left v u (far_end v f) w) (none f (record { entry = at_f; at = inr same }))
          (subst (λ (p : Point). IsMetBefore left v u p w) (sym far)
          (under_met_first f.a (rightmost f at_f).0 (omega linear)))

      pub winds_not_at_right : winding_below count es g ≡ pos 0
      winds_not_at_right =
          let from_end = winding_from_an_end count es arranged g at in
          let at_v = ap (λ (p : Point). winding_by count es (in_plane p)) ends in
          let there = none_counted (λ m. is_strictly_below (ends_of m) (in_plane v)) count es none_there in
          let under = none_counted (λ f. point_eq f.b g.b && turns_left (ends_of g) (ends_of f)) count es none_under in
          from_end ∙ ap₂ (λ a b. a +ℤ b) (at_v ∙ there) under
