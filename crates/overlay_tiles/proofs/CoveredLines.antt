-- A line across settled edges that edges along it cover: no edge crosses it.
use lib.IntN.{*ℤ_comm}
use Rattle.std.proofs.Common.{◌≡◌, ◌⊎◌, inl, inr, ⊎_elim, ℤ, pos, ◌+ℤ◌, ◌-ℤ◌, ◌*ℤ◌, ◌<ℤ◌, ◌≤ℤ◌, neg_ℤ}
use Rattle.std.proofs.Common.{List, Contains, refl, sym, ap, ap₂, ◌∙◌}
use Rattle.std.proofs.lemmas.Bool.{false_from_ne_true}
use Rattle.std.proofs.lemmas.Int.{by_lt_z}
use Rattle.overlay_geom.specs.Plane.{Point, PlanePoint, Edge, IsAt, IsBetween, IsEnd, IsOn, edge_eq}
use Rattle.overlay_geom.specs.Edges.{CountedEdge, ends_of}
use Rattle.overlay_geom.specs.Settled.{IsSettled}
use Rattle.overlay_geom.proofs.Identities.{solve, number, ◌⊕◌, ◌⊗◌, ◌⊖◌, ⊝◌, ◌≗◌}
use Rattle.overlay_geom.proofs.Orders.{edge_eq-same}
use Rattle.overlay_geom.proofs.Signs.{linear, mul-le, eq_of_mul-eq}
use Rattle.overlay_tiles.proofs.Axes.{Axis, of_uprights, of_levels, across, along}

-- how far a point of the plane lies across and along, in its own unit
abbrev pub plane_across : Axis → PlanePoint → ℤ
plane_across of_uprights p = p.x
plane_across of_levels p = p.y

abbrev pub plane_along : Axis → PlanePoint → ℤ
plane_along of_uprights p = neg_ℤ p.y
plane_along of_levels p = p.x

-- an edge of the list runs along the line, over the place z / d on it
pub record IsOver (axis : Axis) (c : ℤ) (es : List CountedEdge) (z d : ℤ) : Type 0 where
  pub edge : CountedEdge
  pub entry : Contains es edge
  pub from : across axis edge.a ≡ c
  pub to : across axis edge.b ≡ c
  pub over : IsBetween z (along axis edge.a *ℤ d) (along axis edge.b *ℤ d)

-- edges of the list cover the line from one place to another one, between which all edges lie
pub record IsCovered (axis : Axis) (c : ℤ) (es : List CountedEdge) (low high : ℤ) : Type 0 where
  pub covers : (z d : ℤ) → pos 0 <ℤ d → (low *ℤ d) ≤ℤ z → z ≤ℤ (high *ℤ d) → IsOver axis c es z d
  pub above_low : (e : CountedEdge) → Contains es e → (low ≤ℤ along axis e.a) × (low ≤ℤ along axis e.b)
  pub below_high : (e : CountedEdge) → Contains es e → (along axis e.a ≤ℤ high) × (along axis e.b ≤ℤ high)

-- a point between two others, s and t parts of the way from the one and to the other
mixed_on : (a b : Point) (s t : ℤ) → pos 0 <ℤ s → pos 0 <ℤ t → (some : pos 0 <ℤ (s +ℤ t)) →
    IsOn (record { a = a; b = b })
    (record { x = t *ℤ a.x +ℤ s *ℤ b.x; y = t *ℤ a.y +ℤ s *ℤ b.y; d = s +ℤ t; positive = some })
mixed_on a b s t s_some t_some some = record {
  on_line = solve 6 (λ ax ay bx by s t. (bx ⊖ ax) ⊗ ((t ⊗ ay ⊕ s ⊗ by) ⊖ ay ⊗ (s ⊕ t))
      ⊖ (by ⊖ ay) ⊗ ((t ⊗ ax ⊕ s ⊗ bx) ⊖ ax ⊗ (s ⊕ t)) ≗ number (pos 0)) tt a.x a.y b.x b.y s t;
  in_x = mixed_between a.x b.x;
  in_y = mixed_between a.y b.y;
}
  where
    mixed_between : (u v : ℤ) → IsBetween (t *ℤ u +ℤ s *ℤ v) (u *ℤ (s +ℤ t)) (v *ℤ (s +ℤ t))
    mixed_between u v =
        let at_u = solve 3 (λ u s t. u ⊗ (s ⊕ t) ≗ s ⊗ u ⊕ t ⊗ u) tt u s t in
        let at_v = solve 3 (λ v s t. v ⊗ (s ⊕ t) ≗ s ⊗ v ⊕ t ⊗ v) tt v s t in
        by_lt_z v u
        (λ more. let first = mul-le s v u (omega linear) (omega linear) in
        let last = mul-le t v u (omega linear) (omega linear) in
        inr (omega linear, omega linear))
        (λ less. let first = mul-le s u v (omega linear) less in
        let last = mul-le t u v (omega linear) less in
        inl (omega linear, omega linear))

-- how far such a point lies across and along
mixed_across : (axis : Axis) (a b : Point) (s t : ℤ) (some : pos 0 <ℤ (s +ℤ t)) → plane_across axis
    (record { x = t *ℤ a.x +ℤ s *ℤ b.x; y = t *ℤ a.y +ℤ s *ℤ b.y; d = s +ℤ t; positive = some })
    ≡ t *ℤ across axis a +ℤ s *ℤ across axis b
mixed_across of_uprights a b s t some = refl
mixed_across of_levels a b s t some = refl

mixed_along : (axis : Axis) (a b : Point) (s t : ℤ) (some : pos 0 <ℤ (s +ℤ t)) → plane_along axis
    (record { x = t *ℤ a.x +ℤ s *ℤ b.x; y = t *ℤ a.y +ℤ s *ℤ b.y; d = s +ℤ t; positive = some })
    ≡ t *ℤ along axis a +ℤ s *ℤ along axis b
mixed_along of_uprights a b s t some =
    solve 4 (λ a b s t. ⊝ (t ⊗ a ⊕ s ⊗ b) ≗ t ⊗ (⊝ a) ⊕ s ⊗ (⊝ b)) tt a.y b.y s t
mixed_along of_levels a b s t some = refl

-- a point on the line of an edge along it, between its ends, lies on that edge
pub on_along : (axis : Axis) (c : ℤ) (e : Edge) (p : PlanePoint) → across axis e.a ≡ c → across axis e.b ≡ c →
    plane_across axis p ≡ c *ℤ p.d → IsBetween (plane_along axis p) (along axis e.a *ℤ p.d) (along axis e.b *ℤ p.d) →
    IsOn e p
on_along of_uprights c e p from to level over =
    let same_a : e.a.x *ℤ p.d ≡ p.x = ap (λ x. x *ℤ p.d) from ∙ sym level in
    let same_b : e.b.x *ℤ p.d ≡ p.x = ap (λ x. x *ℤ p.d) to ∙ sym level in
    record {
      on_line = ap₂ (λ u v. u *ℤ (p.y -ℤ e.a.y *ℤ p.d) -ℤ (e.b.y -ℤ e.a.y) *ℤ v) width_none at_line
          ∙ solve 2 (λ h k. number (pos 0) ⊗ h ⊖ k ⊗ number (pos 0) ≗ number (pos 0)) tt (p.y -ℤ e.a.y *ℤ p.d)
          (e.b.y -ℤ e.a.y);
      in_x = inl (omega linear, omega linear);
      in_y = turned over;
    }
  where
    width_none : e.b.x -ℤ e.a.x ≡ pos 0
    width_none = omega linear

    at_line : p.x -ℤ e.a.x *ℤ p.d ≡ pos 0
    at_line = let same : e.a.x *ℤ p.d ≡ p.x = ap (λ x. x *ℤ p.d) from ∙ sym level in omega linear

    turned : IsBetween (neg_ℤ p.y) (neg_ℤ e.a.y *ℤ p.d) (neg_ℤ e.b.y *ℤ p.d) →
        IsBetween p.y (e.a.y *ℤ p.d) (e.b.y *ℤ p.d)
    turned h =
        let at_a = solve 2 (λ y d. (⊝ y) ⊗ d ≗ ⊝ (y ⊗ d)) tt e.a.y p.d in
        let at_b = solve 2 (λ y d. (⊝ y) ⊗ d ≗ ⊝ (y ⊗ d)) tt e.b.y p.d in
        ⊎_elim (λ up. let low = up.0 in
        let high = up.1 in
        inr (omega linear, omega linear))
        (λ down. let low = down.0 in
        let high = down.1 in
        inl (omega linear, omega linear)) h
on_along of_levels c e p from to level over =
    let same_a : e.a.y *ℤ p.d ≡ p.y = ap (λ y. y *ℤ p.d) from ∙ sym level in
    let same_b : e.b.y *ℤ p.d ≡ p.y = ap (λ y. y *ℤ p.d) to ∙ sym level in
    record {
      on_line = ap₂ (λ u v. (e.b.x -ℤ e.a.x) *ℤ u -ℤ v *ℤ (p.x -ℤ e.a.x *ℤ p.d)) at_line height_none
          ∙ solve 2 (λ h k. h ⊗ number (pos 0) ⊖ number (pos 0) ⊗ k ≗ number (pos 0)) tt (e.b.x -ℤ e.a.x)
          (p.x -ℤ e.a.x *ℤ p.d);
      in_x = over;
      in_y = inl (omega linear, omega linear);
    }
  where
    height_none : e.b.y -ℤ e.a.y ≡ pos 0
    height_none = omega linear

    at_line : p.y -ℤ e.a.y *ℤ p.d ≡ pos 0
    at_line = let same : e.a.y *ℤ p.d ≡ p.y = ap (λ y. y *ℤ p.d) from ∙ sym level in omega linear

-- a whole point in the plane lies as far across
at_across : (axis : Axis) (v : Point) (p : PlanePoint) → IsAt v p → plane_across axis p ≡ across axis v *ℤ p.d
at_across of_uprights v p at = at.0
at_across of_levels v p at = at.1

module _ (axis : Axis) (c : ℤ) (es : List CountedEdge) (settled : IsSettled es) (low high : ℤ)
    (covered : IsCovered axis c es low high) where
  -- a point of the plane that an edge of the list has on the line within the covered part is an end of it, where the
  -- edge does not run along the line
  end_on_line : (e : CountedEdge) → Contains es e → (p : PlanePoint) → IsOn (ends_of e) p →
      plane_across axis p ≡ c *ℤ p.d → (low *ℤ p.d) ≤ℤ plane_along axis p → plane_along axis p ≤ℤ (high *ℤ p.d) →
      ¬ ((across axis e.a ≡ c) × (across axis e.b ≡ c)) → IsEnd (ends_of e) p
  end_on_line e at p on level from to not_along =
      let there = covered.covers (plane_along axis p) p.d p.positive from to in
      (settled e there.edge at there.entry (false_from_ne_true (edge_eq (ends_of e) (ends_of there.edge))
      (λ same. let is = edge_eq-same (ends_of e) (ends_of there.edge) same in
      not_along (ap (λ (f : Edge). across axis f.a) is ∙ there.from, ap (λ (f : Edge). across axis f.b) is ∙ there.to)))
      p (on, on_along axis c (ends_of there.edge) p there.from there.to level there.over)).0

  -- an end of an edge at a point of the line lies on it
  end_level : (v : Point) (p : PlanePoint) → IsAt v p → plane_across axis p ≡ c *ℤ p.d → across axis v ≡ c
  end_level v p at level =
      let same = sym (at_across axis v p at) ∙ level in
      let left = *ℤ_comm (across axis v) p.d in
      let right = *ℤ_comm c p.d in
      eq_of_mul-eq p.d (across axis v) c p.positive (omega linear)

  -- no edge passes the line in a point between its ends, which do not lie on it
  passes_not : (e : CountedEdge) → Contains es e → (s t : ℤ) → pos 0 <ℤ s → pos 0 <ℤ t →
      t *ℤ across axis e.a +ℤ s *ℤ across axis e.b ≡ c *ℤ (s +ℤ t) → ¬ (across axis e.a ≡ c) →
      ¬ (across axis e.b ≡ c) → ⊥
  passes_not e at s t s_some t_some level not_a not_b =
      ⊎_elim (λ here. not_a (end_level e.a p here on_line)) (λ here. not_b (end_level e.b p here on_line))
      (end_on_line e at p (mixed_on e.a e.b s t s_some t_some some) on_line from to (λ both. not_a both.0))
    where
      some : pos 0 <ℤ (s +ℤ t)
      some = omega linear

      p : PlanePoint
      p = record { x = t *ℤ e.a.x +ℤ s *ℤ e.b.x; y = t *ℤ e.a.y +ℤ s *ℤ e.b.y; d = s +ℤ t; positive = some }

      on_line : plane_across axis p ≡ c *ℤ p.d
      on_line = mixed_across axis e.a e.b s t some ∙ level

      place : plane_along axis p ≡ t *ℤ along axis e.a +ℤ s *ℤ along axis e.b
      place = mixed_along axis e.a e.b s t some

      from : (low *ℤ p.d) ≤ℤ plane_along axis p
      from =
          let is = place in
          let parts = solve 3 (λ l s t. l ⊗ (s ⊕ t) ≗ t ⊗ l ⊕ s ⊗ l) tt low s t in
          let a = mul-le t low (along axis e.a) (omega linear) (covered.above_low e at).0 in
          let b = mul-le s low (along axis e.b) (omega linear) (covered.above_low e at).1 in
          omega linear

      to : plane_along axis p ≤ℤ (high *ℤ p.d)
      to =
          let is = place in
          let parts = solve 3 (λ h s t. h ⊗ (s ⊕ t) ≗ t ⊗ h ⊕ s ⊗ h) tt high s t in
          let a = mul-le t (along axis e.a) high (omega linear) (covered.below_high e at).0 in
          let b = mul-le s (along axis e.b) high (omega linear) (covered.below_high e at).1 in
          omega linear

  -- so no edge has one end before the line and one beyond it
  crosses_up : (e : CountedEdge) → Contains es e → across axis e.a <ℤ c → c <ℤ across axis e.b → ⊥
  crosses_up e at before beyond =
      passes_not e at (c -ℤ across axis e.a) (across axis e.b -ℤ c) (omega linear) (omega linear)
      (solve 3 (λ a b c. (b ⊖ c) ⊗ a ⊕ (c ⊖ a) ⊗ b ≗ c ⊗ ((c ⊖ a) ⊕ (b ⊖ c))) tt (across axis e.a) (across axis e.b) c)
      (λ is. omega linear) (λ is. omega linear)

  crosses_down : (e : CountedEdge) → Contains es e → across axis e.b <ℤ c → c <ℤ across axis e.a → ⊥
  crosses_down e at before beyond =
      passes_not e at (across axis e.a -ℤ c) (c -ℤ across axis e.b) (omega linear) (omega linear)
      (solve 3 (λ a b c. (c ⊖ b) ⊗ a ⊕ (a ⊖ c) ⊗ b ≗ c ⊗ ((a ⊖ c) ⊕ (c ⊖ b))) tt (across axis e.a) (across axis e.b) c)
      (λ is. omega linear) (λ is. omega linear)

  -- so both ends of an edge lie beyond the line or on it, or neither beyond it
  pub one_side : (e : CountedEdge) → Contains es e → ((c ≤ℤ across axis e.a) × (c ≤ℤ across axis e.b))
      ⊎ ((across axis e.a ≤ℤ c) × (across axis e.b ≤ℤ c))
  one_side e at = by_lt_z (across axis e.a) c
      (λ less. inr (
        omega linear,
        by_lt_z c (across axis e.b)
            (λ more. absurd (crosses_up e at less more)) (λ le. le),
      ))
      (λ ge. by_lt_z (across axis e.b) c
      (λ less. inr (
        by_lt_z c (across axis e.a)
            (λ more. absurd (crosses_down e at less more)) (λ le. le),
        omega linear,
      ))
      (λ ge_b. inl (ge, ge_b)))
