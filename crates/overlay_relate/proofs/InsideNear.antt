-- Near each point of an edge there are inner points of the edge, and near these there are points off all edges.
-- Windings there are those below the edge, or those above it.
use Rattle.std.proofs.Common.{◌≡◌, ◌⊎◌, inl, inr, ⊎_elim, Bool, true, false, cond, ℕ, ℤ, pos, negsuc}
use Rattle.std.proofs.Common.{nat_abs, neg_ℤ, ◌+ℤ◌, ◌-ℤ◌, ◌*ℤ◌, ◌<ℤ◌, ◌≤ℤ◌, int_lt, int_le, List, Contains}
use Rattle.std.proofs.Common.{refl, sym, ap, ap₂, ◌∙◌, subst, arith}
use Rattle.std.proofs.lemmas.Bool.{and_parts, and_from, false_from_ne_true}
use Rattle.std.proofs.lemmas.Int.{ints, by_lt_z}
use Rattle.std.proofs.lemmas.List.Elements.{All-contains, All-map}
use Rattle.overlay_geom.specs.Edges.{CountedEdge, ends_of, all_ends, winding_by, winding_below, winding_above}
use Rattle.overlay_geom.specs.Plane.{PlanePoint, Edge, IsOn, IsOff, IsEnd, side, midpoint, point_lt, edge_eq}
use Rattle.overlay_geom.specs.Plane.{is_strictly_below}
use Rattle.overlay_geom.proofs.AlongEdge.{in_order_between, over_le}
use Rattle.overlay_geom.proofs.Identities.{solve, number, ◌⊕◌, ◌⊗◌, ◌⊖◌, ⊝◌, ◌≗◌}
use Rattle.overlay_geom.proofs.PointOrder.{IsBefore}
use Rattle.overlay_geom.proofs.Signs.{linear, mul-le, mul-nonneg}
use Rattle.overlay_plane.specs.Heights.{width, covers, IsInner}
use Rattle.overlay_plane.specs.Nodes.{IsBalancedArrangement}
use Rattle.overlay_plane.specs.Regions.{one_if}
use Rattle.overlay_plane.proofs.Entries.{all_of_entries}
use Rattle.overlay_plane.proofs.InnerPoints.{winding_inside}
use Rattle.overlay_plane.proofs.Mixtures.{mixture, mixture_on}
use Rattle.overlay_plane.proofs.NodeWindings.{count-times}
use Rattle.overlay_plane.proofs.SingleEntries.{one_entry, single_total}
use Rattle.overlay_plane.proofs.Tests.{lt_from_test, test_from_lt, test_from_le, test_from_ge}
use Rattle.overlay_plane.proofs.Totals.{total-same, total-add, total-sub}
use Rattle.overlay_plane.proofs.Under.{covers_wide}
use Rattle.overlay_plane.proofs.WholeOnEdges.{forward_from_test}
use Rattle.overlay_relate.specs.Closures.{AreWithinPart}
use Rattle.overlay_relate.proofs.LeftWalls.{wall, not_on_wall, on_wall, left_rise}
use Rattle.overlay_relate.proofs.NearPoints.{after_x, before_x, left_below}
use Rattle.overlay_relate.proofs.SteepPoints.{lean, leans_away, across_steep, side_from_on, beyond, edge_size}
use Rattle.overlay_relate.proofs.SteepPoints.{closeness, steepness, some_steepness, scaled_by, fits_closeness}
use Rattle.overlay_relate.proofs.SteepPoints.{not_as_steep, steep_point, steep_close, off_steep_point, less_near}

-- ---- from a point a little way to another one

-- how much of p is mixed with q
abbrev pub share : ℕ → (p q : PlanePoint) → ℤ
share n p q = pos n *ℤ (pos (nat_abs (q.x *ℤ p.d -ℤ p.x *ℤ q.d)) +ℤ pos (nat_abs (q.y *ℤ p.d -ℤ p.y *ℤ q.d)))

module _ (n : ℕ) (p q : PlanePoint) where
  pub share_nonneg : pos 0 ≤ℤ share n p q
  share_nonneg = mul-nonneg (pos n) (pos (nat_abs (q.x *ℤ p.d -ℤ p.x *ℤ q.d))
      +ℤ pos (nat_abs (q.y *ℤ p.d -ℤ p.y *ℤ q.d))) (nonneg n)
      (sum_nonneg (nat_abs (q.x *ℤ p.d -ℤ p.x *ℤ q.d)) (nat_abs (q.y *ℤ p.d -ℤ p.y *ℤ q.d)))
    where
      nonneg : (m : ℕ) → pos 0 ≤ℤ pos m
      nonneg m = omega (arith, ints)

      sum_nonneg : (k m : ℕ) → pos 0 ≤ℤ (pos k +ℤ pos m)
      sum_nonneg k m = omega (arith, ints)

  pub mixed_some : pos 0 <ℤ (share n p q *ℤ p.d +ℤ pos 1 *ℤ q.d)
  mixed_some =
      let nonneg = mul-nonneg (share n p q) p.d share_nonneg (let d = p.positive in omega linear) in
      let once = solve 1 (λ c. number (pos 1) ⊗ c ≗ c) tt q.d in
      let c = q.positive in
      omega linear

  -- how far q is from p, over both denominators
  abbrev sizes : ℤ
  sizes = pos (nat_abs (q.x *ℤ p.d -ℤ p.x *ℤ q.d)) +ℤ pos (nat_abs (q.y *ℤ p.d -ℤ p.y *ℤ q.d))

  -- a point on the way
  abbrev pub on_way : PlanePoint
  on_way = mixture (share n p q) (pos 1) p q mixed_some

  -- it is near p
  pub on_way_near : AreWithinPart n on_way p
  on_way_near = record {
    right = within (q.x *ℤ p.d -ℤ p.x *ℤ q.d) (x_high)
        (solve 6 (λ m x d u c n. n ⊗ ((m ⊗ x ⊕ number (pos 1) ⊗ u) ⊗ d ⊖ x ⊗ (m ⊗ d ⊕ number (pos 1) ⊗ c)) ≗
        n ⊗ (u ⊗ d ⊖ x ⊗ c)) tt (share n p q) p.x p.d q.x q.d (pos n));
    left = within (p.x *ℤ q.d -ℤ q.x *ℤ p.d) (x_low)
        (solve 6 (λ m x d u c n. n ⊗ (x ⊗ (m ⊗ d ⊕ number (pos 1) ⊗ c) ⊖ (m ⊗ x ⊕ number (pos 1) ⊗ u) ⊗ d) ≗
        n ⊗ (x ⊗ c ⊖ u ⊗ d)) tt (share n p q) p.x p.d q.x q.d (pos n));
    up = within (q.y *ℤ p.d -ℤ p.y *ℤ q.d) (y_high)
        (solve 6 (λ m x d u c n. n ⊗ ((m ⊗ x ⊕ number (pos 1) ⊗ u) ⊗ d ⊖ x ⊗ (m ⊗ d ⊕ number (pos 1) ⊗ c)) ≗
        n ⊗ (u ⊗ d ⊖ x ⊗ c)) tt (share n p q) p.y p.d q.y q.d (pos n));
    down = within (p.y *ℤ q.d -ℤ q.y *ℤ p.d) (y_low)
        (solve 6 (λ m x d u c n. n ⊗ (x ⊗ (m ⊗ d ⊕ number (pos 1) ⊗ c) ⊖ (m ⊗ x ⊕ number (pos 1) ⊗ u) ⊗ d) ≗
        n ⊗ (x ⊗ c ⊖ u ⊗ d)) tt (share n p q) p.y p.d q.y q.d (pos n));
  }
    where
      up_to : (z : ℤ) (k : ℕ) → (z ≤ℤ (pos (nat_abs z) +ℤ pos k)) × (neg_ℤ z ≤ℤ (pos (nat_abs z) +ℤ pos k))
      up_to (pos m) k = (omega (arith, ints), omega (arith, ints))
      up_to (negsuc m) k = (omega (arith, ints), omega (arith, ints))

      x_high : (q.x *ℤ p.d -ℤ p.x *ℤ q.d) ≤ℤ sizes
      x_high = (up_to (q.x *ℤ p.d -ℤ p.x *ℤ q.d) (nat_abs (q.y *ℤ p.d -ℤ p.y *ℤ q.d))).0

      x_low : (p.x *ℤ q.d -ℤ q.x *ℤ p.d) ≤ℤ sizes
      x_low = let le = (up_to (q.x *ℤ p.d -ℤ p.x *ℤ q.d) (nat_abs (q.y *ℤ p.d -ℤ p.y *ℤ q.d))).1 in omega linear

      y_high : (q.y *ℤ p.d -ℤ p.y *ℤ q.d) ≤ℤ sizes
      y_high = let le = (up_to (q.y *ℤ p.d -ℤ p.y *ℤ q.d) (nat_abs (q.x *ℤ p.d -ℤ p.x *ℤ q.d))).0 in omega linear

      y_low : (p.y *ℤ q.d -ℤ q.y *ℤ p.d) ≤ℤ sizes
      y_low = let le = (up_to (q.y *ℤ p.d -ℤ p.y *ℤ q.d) (nat_abs (q.x *ℤ p.d -ℤ p.x *ℤ q.d))).1 in omega linear

      -- n times a part of the sizes is no more than the denominators
      within : (z : ℤ) → z ≤ℤ sizes → {w : ℤ} → w ≡ pos n *ℤ z → w ≤ℤ (on_way.d *ℤ p.d)
      within z le {w} is =
          let of_n = mul-le (pos n) z sizes (nonneg n) le in
          let d = p.positive in
          let c = q.positive in
          let once = mul-le (share n p q) (pos 1) p.d share_nonneg (omega linear) in
          let one = solve 1 (λ m. m ⊗ number (pos 1) ≗ m) tt (share n p q) in
          let one_c = solve 1 (λ c. number (pos 1) ⊗ c ≗ c) tt q.d in
          let twice = mul-le on_way.d (pos 1) p.d (let some = mixed_some in omega linear) (omega linear) in
          let one_d = solve 1 (λ m. m ⊗ number (pos 1) ≗ m) tt on_way.d in
          omega linear
        where
          nonneg : (m : ℕ) → pos 0 ≤ℤ pos m
          nonneg m = omega (arith, ints)

-- ---- inner points of an edge

-- the point is on the edge, and strictly between its ends
pub record IsStrictlyInside (e : Edge) (r : PlanePoint) : Type 0 where
  pub on : IsOn e r
  pub wide : pos 0 <ℤ width e → IsInner e r.x r.d
  pub upright : width e ≤ℤ pos 0 → ((e.a.y *ℤ r.d) <ℤ r.y) × (r.y <ℤ (e.b.y *ℤ r.d))

-- it is no end
pub no_end_inside : (e : Edge) (r : PlanePoint) → IsStrictlyInside e r → ¬ (IsEnd e r)
no_end_inside e r inside end = by_lt_z (pos 0) (width e)
    (λ wide. let strict = inside.wide wide in
    let from = strict.after in
    let to = strict.before in
    ⊎_elim (λ at. let x = at.0 in omega linear) (λ at. let x = at.0 in omega linear) end)
    (λ narrow. let strict = inside.upright narrow in
    let from = strict.0 in
    let to = strict.1 in
    ⊎_elim (λ at. let y = at.1 in omega linear) (λ at. let y = at.1 in omega linear) end)

-- the midpoint of an edge is on it
middle_on : (e : Edge) → point_lt e.a e.b ≡ true → IsOn e (midpoint e)
middle_on e forward = record {
  on_line = solve 4 (λ ax ay bx by. (bx ⊖ ax) ⊗ ((ay ⊕ by) ⊖ ay ⊗ number (pos 2)) ⊖
      (by ⊖ ay) ⊗ ((ax ⊕ bx) ⊖ ax ⊗ number (pos 2)) ≗ number (pos 0)) tt e.a.x e.a.y e.b.x e.b.y;
  in_x = between e.a.x e.b.x;
  in_y = between e.a.y e.b.y;
}
  where
    between : (a b : ℤ) → (((a *ℤ pos 2) ≤ℤ (a +ℤ b)) × ((a +ℤ b) ≤ℤ (b *ℤ pos 2)))
        ⊎ (((b *ℤ pos 2) ≤ℤ (a +ℤ b)) × ((a +ℤ b) ≤ℤ (a *ℤ pos 2)))
    between a b = by_lt_z b a (λ less. inr (omega (arith, ints), omega (arith, ints)))
        (λ le. inl (omega (arith, ints), omega (arith, ints)))

module _ (n : ℕ) (e : Edge) (forward : point_lt e.a e.b ≡ true) (p : PlanePoint) (on : IsOn e p) where
  abbrev pub inner : PlanePoint
  inner = on_way n p (midpoint e)

  in_order : IsBefore e.a e.b
  in_order = forward_from_test e forward

  -- a mixture with the middle is after the start and before the end
  after_start : (m a b z d : ℤ) → pos 0 ≤ℤ m → (a *ℤ d) ≤ℤ z → a <ℤ b →
      (a *ℤ (m *ℤ d +ℤ pos 1 *ℤ pos 2)) <ℤ (m *ℤ z +ℤ pos 1 *ℤ (a +ℤ b))
  after_start m a b z d nonneg from less =
      let le = mul-le m (a *ℤ d) z nonneg from in
      let is = solve 4 (λ m a d b. a ⊗ (m ⊗ d ⊕ number (pos 1) ⊗ number (pos 2)) ⊕ (b ⊖ a) ≗
      m ⊗ (a ⊗ d) ⊕ number (pos 1) ⊗ (a ⊕ b)) tt m a d b in
      omega linear

  before_end : (m a b z d : ℤ) → pos 0 ≤ℤ m → z ≤ℤ (b *ℤ d) → a <ℤ b →
      (m *ℤ z +ℤ pos 1 *ℤ (a +ℤ b)) <ℤ (b *ℤ (m *ℤ d +ℤ pos 1 *ℤ pos 2))
  before_end m a b z d nonneg to less =
      let le = mul-le m z (b *ℤ d) nonneg to in
      let is = solve 4 (λ m a d b. b ⊗ (m ⊗ d ⊕ number (pos 1) ⊗ number (pos 2)) ≗
      m ⊗ (b ⊗ d) ⊕ number (pos 1) ⊗ (a ⊕ b) ⊕ (b ⊖ a)) tt m a d b in
      omega linear

  pub inner_inside : IsStrictlyInside e inner
  inner_inside = record {
    on = mixture_on e (share n p (midpoint e)) (pos 1) p (midpoint e) (mixed_some n p (midpoint e))
        (share_nonneg n p (midpoint e)) (omega linear) on (middle_on e forward);
    wide = λ wide.
        let x = in_order_between p.x (e.a.x *ℤ p.d) (e.b.x *ℤ p.d) (over_le e.a.x e.b.x p.d p.positive in_order.x)
        on.in_x in
        record {
          after = after_start (share n p (midpoint e)) e.a.x e.b.x p.x p.d (share_nonneg n p (midpoint e)) x.0
              (omega linear);
          before = before_end (share n p (midpoint e)) e.a.x e.b.x p.x p.d (share_nonneg n p (midpoint e)) x.1
              (omega linear);
        };
    upright = λ narrow.
        let up = in_order.y (omega linear) in
        let y = in_order_between p.y (e.a.y *ℤ p.d) (e.b.y *ℤ p.d) (over_le e.a.y e.b.y p.d p.positive (omega linear))
        on.in_y in (
          after_start (share n p (midpoint e)) e.a.y e.b.y p.y p.d (share_nonneg n p (midpoint e)) y.0 up,
          before_end (share n p (midpoint e)) e.a.y e.b.y p.y p.d (share_nonneg n p (midpoint e)) y.1 up,
        );
  }

  pub inner_near : AreWithinPart n inner p
  inner_near = on_way_near n p (midpoint e)

-- ---- steeply above an inner point

module _ (count : CountedEdge → ℤ) (es : List CountedEdge) (arranged : IsBalancedArrangement count es)
    (e : CountedEdge) (c : Contains es e) (r : PlanePoint) (inside : IsStrictlyInside (ends_of e) r) (n : ℕ) where
  abbrev pub above : PlanePoint
  above = steep_point n es r (pos 1) (inl refl)

  close_above : AreWithinPart (closeness n es r) above r
  close_above = steep_close n es r (pos 1) (inl refl)

  forward_at : (f : CountedEdge) → Contains es f → point_lt f.a f.b ≡ true
  forward_at f d = All-contains (λ g. point_lt g.a g.b ≡ true) es f arranged.planar.forward d

  least : negsuc 0 ≤ℤ pos 1
  least = omega linear

  most : pos 1 ≤ℤ pos 1
  most = omega linear

  -- it is to the left of r
  left : (above.x *ℤ r.d -ℤ r.x *ℤ above.d) <ℤ pos 0
  left =
      let is = across_steep (pos 1) least most (closeness n es r) (steepness n es r) (some_steepness n es r) r
      (scaled_by n es r) in
      let once = solve 1 (λ d. ⊝ (number (pos 1)) ⊗ d ≗ ⊝ d) tt r.d in
      let d = r.positive in
      omega linear

  -- how the truth that an edge is below differs between the two
  abbrev rise : CountedEdge → ℤ
  rise f = one_if (is_strictly_below (ends_of f) above) -ℤ one_if (is_strictly_below (ends_of f) r)

  rise_apart : (f : CountedEdge) → Contains es f → ¬ (IsOn (ends_of f) r) → rise f ≡ wall r f.b -ℤ wall r f.a
  rise_apart f d off =
      ap (λ t. one_if t -ℤ one_if (is_strictly_below (ends_of f) r))
      (left_below (closeness n es r) r above close_above (ends_of f) (fits_closeness n es r f d) off left)
      ∙ left_rise r (ends_of f) (forward_at f d) off

  not_below : is_strictly_below (ends_of e) r ≡ false
  not_below = false_from_ne_true (is_strictly_below (ends_of e) r) (λ t.
      let high = lt_from_test (pos 0) (side (ends_of e) r)
      (and_parts (covers (ends_of e) r.x r.d) (int_lt (pos 0) (side (ends_of e) r)) t).1 in
      let level = inside.on.on_line in
      omega linear)

  rise_own : rise e ≡ (wall r e.b -ℤ wall r e.a) +ℤ pos 1
  rise_own = by_lt_z (pos 0) (width (ends_of e)) wide narrow
    where
      wide : pos 0 <ℤ width (ends_of e) → rise e ≡ (wall r e.b -ℤ wall r e.a) +ℤ pos 1
      wide w =
          let strict = inside.wide w in
          let from = strict.after in
          let to = strict.before in
          ap₂ (λ s t. one_if s -ℤ one_if t) there not_below
          ∙ sym (ap₂ (λ u v. (u -ℤ v) +ℤ pos 1) (not_on_wall r e.b (λ is. omega linear))
          (not_on_wall r e.a (λ is. omega linear)))
        where
          high : pos 0 <ℤ side (ends_of e) above
          high =
              let is = side_from_on (pos 1) least most (closeness n es r) (steepness n es r) (some_steepness n es r) r
              (scaled_by n es r) (ends_of e) (not_as_steep n es r e c) inside.on in
              let once = solve 1 (λ z. number (pos 1) ⊗ z ≗ z) tt (lean (steepness n es r) (ends_of e)) in
              let away = (leans_away (steepness n es r) (ends_of e) (not_as_steep n es r e c)).0 w in
              omega linear

          there : is_strictly_below (ends_of e) above ≡ true
          there =
              let strict = inside.wide w in
              and_from (covers (ends_of e) above.x above.d) (int_lt (pos 0) (side (ends_of e) above))
              (and_from (int_le (e.a.x *ℤ above.d) above.x) (int_lt above.x (e.b.x *ℤ above.d))
              (test_from_le (e.a.x *ℤ above.d) above.x
              (let lt = after_x (closeness n es r) r above close_above (ends_of e) (fits_closeness n es r e c) e.a.x
              strict.after in omega linear))
              (test_from_lt above.x (e.b.x *ℤ above.d)
              (before_x (closeness n es r) r above close_above (ends_of e) (fits_closeness n es r e c) e.b.x
              strict.before)))
              (test_from_lt (pos 0) (side (ends_of e) above) high)

      narrow : width (ends_of e) ≤ℤ pos 0 → rise e ≡ (wall r e.b -ℤ wall r e.a) +ℤ pos 1
      narrow small =
          let strict = inside.upright small in
          ap₂ (λ s t. one_if s -ℤ one_if t) not_there not_below
          ∙ sym (ap₂ (λ u v. (u -ℤ v) +ℤ pos 1)
          (on_wall r e.b (let x = columns in x.1) ∙ ap one_if (test_from_ge (e.b.y *ℤ r.d) r.y
          (let lt = strict.1 in omega linear)))
          (on_wall r e.a (let x = columns in x.0) ∙ ap one_if (test_from_lt (e.a.y *ℤ r.d) r.y strict.0)))
        where
          not_there : is_strictly_below (ends_of e) above ≡ false
          not_there = false_from_ne_true (is_strictly_below (ends_of e) above) (λ t.
              let over = (and_parts (covers (ends_of e) above.x above.d)
              (int_lt (pos 0) (side (ends_of e) above)) t).0 in
              let w = covers_wide (ends_of e) above.x above.d above.positive over in
              omega linear)

          columns : (e.a.x *ℤ r.d ≡ r.x) × (e.b.x *ℤ r.d ≡ r.x)
          columns =
              let order = (forward_from_test (ends_of e) (forward_at e c)).x in
              let ends = over_le e.a.x e.b.x r.d r.positive order in
              let back = over_le e.b.x e.a.x r.d r.positive (omega linear) in
              let x = in_order_between r.x (e.a.x *ℤ r.d) (e.b.x *ℤ r.d) ends inside.on.in_x in
              let from = x.0 in
              let to = x.1 in
              (omega linear, omega linear)

  -- the term of an edge
  term : (f : CountedEdge) → Contains es f →
      cond (is_strictly_below (ends_of f) above) (count f) (pos 0) -ℤ
      cond (is_strictly_below (ends_of f) r) (count f) (pos 0) ≡
      count f *ℤ (wall r f.b -ℤ wall r f.a) +ℤ cond (edge_eq (ends_of f) (ends_of e)) (count f) (pos 0)
  term f d = ap₂ (λ u v. u -ℤ v) (count-times (is_strictly_below (ends_of f) above) (count f))
      (count-times (is_strictly_below (ends_of f) r) (count f))
      ∙ solve 3 (λ c s t. c ⊗ s ⊖ c ⊗ t ≗ c ⊗ (s ⊖ t)) tt (count f) (one_if (is_strictly_below (ends_of f) above))
      (one_if (is_strictly_below (ends_of f) r))
      ∙ by (edge_eq (ends_of f) (ends_of e)) refl
    where
      by : (t : Bool) → edge_eq (ends_of f) (ends_of e) ≡ t →
          count f *ℤ rise f ≡ count f *ℤ (wall r f.b -ℤ wall r f.a) +ℤ cond t (count f) (pos 0)
      by true same = subst (λ (g : CountedEdge).
          count g *ℤ rise g ≡ count g *ℤ (wall r g.b -ℤ wall r g.a) +ℤ count g)
          (sym (one_entry es arranged.planar.distinct f e d c same))
          (ap (λ z. count e *ℤ z) rise_own
          ∙ solve 2 (λ c w. c ⊗ (w ⊕ number (pos 1)) ≗ c ⊗ w ⊕ c) tt (count e) (wall r e.b -ℤ wall r e.a))
      by false apart = ap (λ z. count f *ℤ z) (rise_apart f d (λ on. no_end_inside (ends_of e) r inside
          (arranged.planar.settled f e d c apart r (on, inside.on)).1))
          ∙ solve 1 (λ z. z ≗ z ⊕ number (pos 0)) tt (count f *ℤ (wall r f.b -ℤ wall r f.a))

  -- so the winding there is the one above the edge
  pub winds_above : winding_by count es above ≡ winding_above count es e
  winds_above =
      let apart : winding_by count es above -ℤ winding_by count es r ≡ count e =
      sym (total-sub (λ f. cond (is_strictly_below (ends_of f) above) (count f) (pos 0))
      (λ f. cond (is_strictly_below (ends_of f) r) (count f) (pos 0)) es)
      ∙ total-same (λ f. cond (is_strictly_below (ends_of f) above) (count f) (pos 0) -ℤ
      cond (is_strictly_below (ends_of f) r) (count f) (pos 0))
      (λ f. count f *ℤ (wall r f.b -ℤ wall r f.a) +ℤ cond (edge_eq (ends_of f) (ends_of e)) (count f) (pos 0))
      es term
      ∙ total-add (λ f. count f *ℤ (wall r f.b -ℤ wall r f.a))
      (λ f. cond (edge_eq (ends_of f) (ends_of e)) (count f) (pos 0)) es
      ∙ ap₂ (λ u v. u +ℤ v) (arranged.balanced (wall r)) (single_total es arranged.planar.distinct count e c)
      ∙ solve 1 (λ z. number (pos 0) ⊕ z ≗ z) tt (count e) in
      let below : winding_by count es r ≡ winding_below count es e =
      winding_inside count es arranged e c r inside.on (no_end_inside (ends_of e) r inside) in
      omega linear

  pub above_near : AreWithinPart n above r
  above_near = less_near n (nat_abs (beyond edge_size es *ℤ r.d)) above r close_above

  pub off_above : IsOff (all_ends es) above
  off_above = All-map (λ f. ¬ (IsOn f above)) ends_of es (all_of_entries (λ f. ¬ (IsOn (ends_of f) above)) es
      (off_steep_point n es r (pos 1) (inl refl)))
