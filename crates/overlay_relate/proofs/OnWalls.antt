-- A point is on one of a contour's walls where it is on the last one that starts no later.
use Rattle.std.proofs.Common.{◌≡◌, ◌↔◌, ⊎_elim, ℕ, ◌-◌, ◌<◌, ◌≤◌, Bool, true, false, not, cond, ◌&&◌, pos, ◌-ℤ◌, List}
use Rattle.std.proofs.Common.{map, length, get_or, Contains, refl, sym, ap, ◌∙◌, subst, arith}
use Rattle.std.proofs.lemmas.Bool.{cases_lt, both_ways, and_from, or_left, or_right, false_from_ne_true}
use Rattle.std.proofs.lemmas.Int.{ints}
use Rattle.std.specs.List.Sorted.{IsPartitionPoint}
use Rattle.std.proofs.lemmas.List.{get_or_default, get_or-map, length-map}
use Rattle.std.proofs.lemmas.List.Elements.{All-contains}
use Rattle.std.proofs.lemmas.List.Sorted.{Contains-permutation, IsPermutation-sym}
use Rattle.std.proofs.Math.Nat.{eq-or-lt_of_le}
use lib.IntN.{*ℤ_comm}
use Rattle.overlay_geom.specs.Plane.{Point, Edge, point_lt, point_eq, edge_lt, edge_eq, cross_at, in_plane, IsOn, IsAt}
use Rattle.overlay_geom.proofs.Orders.{point_lt-order, point_eq-same, point_eq-of_same, point_lt-itself, point_lt-back}
use Rattle.overlay_geom.proofs.Orders.{same_point, edge_eq-same}
use Rattle.overlay_geom.proofs.OneLine.{holds_start, holds_end}
use Rattle.overlay_geom.proofs.PointOrder.{Decides-point_lt}
use Rattle.overlay_geom.proofs.Signs.{linear, mul-zero}
use Rattle.overlay_plane.proofs.Entries.{any_of_entry, Contains-from_any, Contains-map, Contains-from_map}
use Rattle.overlay_plane.proofs.Tests.{ge_from_test}
use Rattle.overlay_relate.specs.Sweeps.{is_wide}
use Rattle.overlay_relate.specs.Walls.{wall_of, AreContourWalls, starts_up_to, IsOnSomeWall}
use Rattle.overlay_relate.proofs.Insides.{settled}
use Rattle.overlay_relate.proofs.OnEdges.{on_where_tested, up_to_where_not_less}
use Rattle.std.proofs.lemmas.Bool.{not-true}

-- what comes no later than what comes no later
pub no_later : (p q r : Point) → point_lt q p ≡ false → point_lt r q ≡ false → point_lt r p ≡ false
no_later p q r first second = point_lt-order.chain r q p second first

-- a point is not before an earlier one
pub not_after : (p q : Point) → point_lt p q ≡ true → point_lt q p ≡ false
not_after p q less = point_lt-order.one_way p q less

module _ (e : Edge) (forward : point_lt e.a e.b ≡ true) where
  -- an edge's ends are on it
  pub start_on : IsOn e (in_plane e.a)
  start_on = on_where_tested e e.a forward (holds_start e ((Decides-point_lt e.a e.b).0 forward)).on_line
      (point_lt-itself e.a) (not_after e.a e.b forward)

  pub end_on : IsOn e (in_plane e.b)
  end_on = on_where_tested e e.b forward (holds_end e ((Decides-point_lt e.a e.b).0 forward)).on_line
      (not_after e.a e.b forward) (point_lt-itself e.b)

  -- a point between the ends of a vertical edge is on it
  pub upright_on : is_wide e ≡ false → (v : Point) → point_lt v e.a ≡ false → point_lt e.b v ≡ false →
      IsOn e (in_plane v)
  upright_on upright v from to = on_where_tested e v forward level from to
    where
      level : cross_at e.a e.b v ≡ pos 0
      level =
          let after = (up_to_where_not_less e.a v from).x in
          let before = (up_to_where_not_less v e.b to).x in
          let narrow = ge_from_test e.a.x e.b.x upright in
          let first = mul-zero (v.y -ℤ e.a.y) (e.b.x -ℤ e.a.x) (omega linear) in
          let second = mul-zero (e.b.y -ℤ e.a.y) (v.x -ℤ e.a.x) (omega linear) in
          let turned = *ℤ_comm (e.b.x -ℤ e.a.x) (v.y -ℤ e.a.y) in
          omega linear

-- the wall of an edge
pub wide_wall : (e : Edge) → is_wide e ≡ true → wall_of e ≡ record { a = e.b; b = e.b }
wide_wall e wide = ap (λ t. cond t (record { a = e.b; b = e.b }) e) wide

pub upright_wall : (e : Edge) → is_wide e ≡ false → wall_of e ≡ e
upright_wall e upright = ap (λ t. cond t (record { a = e.b; b = e.b }) e) upright

pub by_wide : {P : Type 0} (e : Edge) → (is_wide e ≡ true → P) → (is_wide e ≡ false → P) → P
by_wide {P} e wide upright = by (is_wide e) refl
  where
    by : (t : Bool) → is_wide e ≡ t → P
    by true is = wide is
    by false is = upright is

-- a wall does not end before it starts
wall_up : (e : Edge) → point_lt e.a e.b ≡ true → point_lt (wall_of e).b (wall_of e).a ≡ false
wall_up e forward = by_wide e
    (λ wide. subst (λ (w : Edge). point_lt w.b w.a ≡ false) (sym (wide_wall e wide)) (point_lt-itself e.b))
    (λ upright. subst (λ (w : Edge). point_lt w.b w.a ≡ false) (sym (upright_wall e upright))
    (not_after e.a e.b forward))

-- and starts on its edge
wall_start_on : (e : Edge) → point_lt e.a e.b ≡ true → IsOn e (in_plane (wall_of e).a)
wall_start_on e forward = by_wide e
    (λ wide. subst (λ (w : Edge). IsOn e (in_plane w.a)) (sym (wide_wall e wide)) (end_on e forward))
    (λ upright. subst (λ (w : Edge). IsOn e (in_plane w.a)) (sym (upright_wall e upright)) (start_on e forward))

-- a point between the ends of a wall is on its edge
pub on_wall_on : (e : Edge) → point_lt e.a e.b ≡ true → (v : Point) → point_lt v (wall_of e).a ≡ false →
    point_lt (wall_of e).b v ≡ false → IsOn e (in_plane v)
on_wall_on e forward v from to = by_wide e
    (λ wide. subst (λ (p : Point). IsOn e (in_plane p)) (one (wide_wall e wide)) (end_on e forward))
    (λ upright. upright_on e forward upright v
    (subst (λ (w : Edge). point_lt v w.a ≡ false) (upright_wall e upright) from)
    (subst (λ (w : Edge). point_lt w.b v ≡ false) (upright_wall e upright) to))
  where
    one : wall_of e ≡ record { a = e.b; b = e.b } → e.b ≡ v
    one is =
        let after = up_to_where_not_less e.b v (subst (λ (w : Edge). point_lt v w.a ≡ false) is from) in
        let before = up_to_where_not_less v e.b (subst (λ (w : Edge). point_lt w.b v ≡ false) is to) in
        let left = after.x in
        let right = before.x in
        same_point e.b v (omega linear) (let low = after.y right in let high = before.y left in omega linear)

-- the later of two walls starts no earlier
starts_later : (u w : Edge) → edge_lt w u ≡ false → point_lt w.a u.a ≡ false
starts_later u w later = false_from_ne_true (point_lt w.a u.a)
    (λ less. both_ways (edge_lt w u) later (or_left (point_lt w.a u.a) (point_eq w.a u.a && point_lt w.b u.b) less))

-- and from one start ends no earlier
ends_later : (u w : Edge) → edge_lt w u ≡ false → w.a ≡ u.a → point_lt w.b u.b ≡ false
ends_later u w later same = false_from_ne_true (point_lt w.b u.b) (λ less. both_ways (edge_lt w u) later
    (or_right (point_lt w.a u.a) (point_eq w.a u.a && point_lt w.b u.b)
    (and_from (point_eq w.a u.a) (point_lt w.b u.b) (point_eq-of_same w.a u.a same) less)))

module _ (ws : List Edge) (walls : AreContourWalls ws) where
  -- a wall is that of an edge
  pub edge_of_wall : (w : Edge) → Contains ws w → (e : Edge) × Contains walls.edges e × (wall_of e ≡ w)
  edge_of_wall w c = Contains-from_map wall_of walls.edges w
      (Contains-permutation ws (map wall_of walls.edges) w
      (IsPermutation-sym (map wall_of walls.edges) ws walls.walls.same) c)

  forward : (e : Edge) → Contains walls.edges e → point_lt e.a e.b ≡ true
  forward e c = All-contains (λ f. point_lt f.a f.b ≡ true) walls.edges e walls.contour.forward c

  -- walls that start no later than a point stand before the others
  pub up_to_before : (v : Point) (u w : Edge) → edge_lt w u ≡ false → starts_up_to v w ≡ true → starts_up_to v u ≡ true
  up_to_before v u w later up = ap not
      (no_later u.a w.a v (starts_later u w later) (not-true (point_lt v w.a) up))

  module _ (p : Point) (u w : Edge) (at_u : Contains ws u) (at_w : Contains ws w) (later : edge_lt w u ≡ false)
      (up : point_lt p w.a ≡ false)
      (to : point_lt u.b p ≡ false) where
    -- a point on a wall is on each later one that starts no later than the point
    pub on_later : point_lt w.b p ≡ false
    on_later = by (point_eq w.a u.a) refl
      where
        own : (e : Edge) × Contains walls.edges e × (wall_of e ≡ u)
        own = edge_of_wall u at_u

        other : (e : Edge) × Contains walls.edges e × (wall_of e ≡ w)
        other = edge_of_wall w at_w

        up_w : point_lt w.b w.a ≡ false
        up_w = subst (λ (x : Edge). point_lt x.b x.a ≡ false) other.2 (wall_up other.0 (forward other.0 other.1))

        -- the later wall starts within the first one, at its end
        at_end : point_eq w.a u.a ≡ false → w.a ≡ u.b
        at_end apart = by_wide own.0
            (λ wide. absurd (degenerate wide))
            (λ upright. of_ends upright)
          where
            in_u : point_lt u.b w.a ≡ false
            in_u = no_later w.a p u.b up to

            degenerate : is_wide own.0 ≡ true → ⊥
            degenerate wide =
                let is = sym (wide_wall own.0 wide) ∙ own.2 in
                let one : u.a ≡ u.b = ap (λ (x : Edge). x.a) (sym is) ∙ ap (λ (x : Edge). x.b) is in
                both_ways (point_lt u.a w.a) (subst (λ (q : Point). point_lt q w.a ≡ false) (sym one) in_u)
                (point_lt-back w.a u.a apart (starts_later u w later))

            of_ends : is_wide own.0 ≡ false → w.a ≡ u.b
            of_ends upright =
                let is : own.0 ≡ u = sym (upright_wall own.0 upright) ∙ own.2 in
                let on_e : IsOn own.0 (in_plane w.a) = upright_on own.0 (forward own.0 own.1) upright w.a
                (subst (λ (x : Edge). point_lt w.a x.a ≡ false) (sym is) (starts_later u w later))
                (subst (λ (x : Edge). point_lt x.b w.a ≡ false) (sym is) in_u) in
                let on_f : IsOn other.0 (in_plane w.a) = subst (λ (x : Edge). IsOn other.0 (in_plane x.a)) other.2
                (wall_start_on other.0 (forward other.0 other.1)) in
                let differ : edge_eq own.0 other.0 ≡ false = false_from_ne_true (edge_eq own.0 other.0)
                (λ same. both_ways (point_eq w.a u.a) apart
                (point_eq-of_same w.a u.a (ap (λ (x : Edge). x.a)
                (sym other.2 ∙ ap wall_of (sym (edge_eq-same own.0 other.0 same)) ∙ own.2)))) in
                let meet = settled walls.edges walls.contour own.0 other.0 own.1 other.1 differ (in_plane w.a)
                (on_e, on_f) in
                ⊎_elim
                (λ start. absurd (both_ways (point_eq w.a u.a) apart
                (point_eq-of_same w.a u.a (at w.a own.0.a start ∙ ap (λ (x : Edge). x.a) is))))
                (λ end. at w.a own.0.b end ∙ ap (λ (x : Edge). x.b) is)
                meet.0
              where
                at : (q r : Point) → IsAt r (in_plane q) → q ≡ r
                at q r is = same_point q r (let h = is.0 in omega (arith, ints)) (let h = is.1 in omega (arith, ints))

        by : (t : Bool) → point_eq w.a u.a ≡ t → point_lt w.b p ≡ false
        by true same = no_later p u.b w.b to (ends_later u w later (point_eq-same w.a u.a same))
        by false apart = no_later p w.a w.b (subst (λ (q : Point). point_lt q p ≡ false) (sym (at_end apart)) to) up_w

-- ---- the last wall that starts no later than a point

module _ {X : Type 0} (f : X → Edge) (xs : List X) (walls : AreContourWalls (map f xs)) (p : Point) where
  -- of two walls at different places the later one is later
  later_at : (i j : ℕ) (d : X) → i < j → j < length xs → edge_lt (f (get_or xs j d)) (f (get_or xs i d)) ≡ false
  later_at i j d less end =
      subst (λ (w : Edge). edge_lt w (f (get_or xs i d)) ≡ false) (get_or-map f xs j d (f d) end)
      (subst (λ (u : Edge). edge_lt (get_or (map f xs) j (f d)) u ≡ false)
      (get_or-map f xs i d (f d) (omega (arith, less, end)))
      (walls.walls.order i j (f d) less (rw length-map end)))

  -- those that start no later than the point stand before the others
  pub walls_partitioned : (i j : ℕ) (d : X) → i ≤ j → j < length xs → starts_up_to p (f (get_or xs j d)) ≡ true →
      starts_up_to p (f (get_or xs i d)) ≡ true
  walls_partitioned i j d le end up = ⊎_elim
      (λ same. ap (λ k. starts_up_to p (f (get_or xs k d))) same ∙ up)
      (λ less. up_to_before (map f xs) walls p (f (get_or xs i d)) (f (get_or xs j d)) (later_at i j d less end) up)
      (eq-or-lt_of_le le)

  module _ (n : ℕ) (point : IsPartitionPoint (λ x. starts_up_to p (f x) ≡ true) (λ x. starts_up_to p (f x) ≡ false) xs
      n) where
    -- where none starts no later, the point is on none
    pub on_no_wall : n ≡ 0 → ¬ (IsOnSomeWall (map f xs) p)
    on_no_wall none some =
        let found = Contains-from_any (λ w. (point_lt p w.a ≡ false) × (point_lt w.b p ≡ false)) (map f xs) some in
        let at = Contains-from_map f xs found.0 found.1 in
        both_ways (starts_up_to p found.0)
        (subst (λ (w : Edge). starts_up_to p w ≡ false) (ap f (at.1.2) ∙ at.2)
        (point.1 at.1.0 at.0 (omega (arith, none)) at.1.1)) (ap not found.2.0)

    -- else it is on one where it is on the last of those
    pub on_last_wall : (w : X) → 0 < n → n ≤ length xs → w ≡ get_or xs (n - 1) w →
        (point_lt (f w).b p ≡ false) ↔ IsOnSomeWall (map f xs) p
    on_last_wall w some le is = (
      λ to. any_of_entry (λ u. (point_lt p u.a ≡ false) × (point_lt u.b p ≡ false)) (map f xs) (f w) held (
        not-true (point_lt p (f w).a)
            (subst (λ x. starts_up_to p (f x) ≡ true) (sym is)
            (point.0 (n - 1) w (omega arith) (omega (arith, some)))),
        to,
      ),
      λ on.
          let found = Contains-from_any (λ u. (point_lt p u.a ≡ false) × (point_lt u.b p ≡ false)) (map f xs) on in
          let at = Contains-from_map f xs found.0 found.1 in
          by found.0 found.1 at.0 at.1 at.2 found.2.0 found.2.1,
    )
      where
        held : Contains (map f xs) (f w)
        held = Contains-map f xs w (n - 1, omega (arith, some, le), sym is)

        up : point_lt p (f w).a ≡ false
        up = not-true (point_lt p (f w).a)
            (subst (λ x. starts_up_to p (f x) ≡ true) (sym is) (point.0 (n - 1) w (omega arith) (omega (arith, some))))

        by : (u : Edge) → Contains (map f xs) u → (x : X) (c : Contains xs x) → f x ≡ u → point_lt p u.a ≡ false →
            point_lt u.b p ≡ false → point_lt (f w).b p ≡ false
        by u at x c same from to = ⊎_elim
            (λ less. ⊎_elim
            (λ last. subst (λ (v : Edge). point_lt v.b p ≡ false)
            (sym same ∙ ap f (sym c.2 ∙ get_or_default xs c.0 x w c.1 ∙ ap (λ k. get_or xs k w) last ∙ sym is)) to)
            (λ before. on_later (map f xs) walls p u (f w) at held
            (subst (λ (v : Edge). edge_lt (f w) v ≡ false) same
            (subst (λ y. edge_lt (f w) (f y) ≡ false) c.2
            (subst (λ y. edge_lt (f y) (f (get_or xs c.0 x)) ≡ false)
            (get_or_default xs (n - 1) x w (omega (arith, some, le)) ∙ sym is)
            (later_at c.0 (n - 1) x before (omega (arith, some, le)))))) up to)
            (eq-or-lt_of_le (let m : c.0 ≤ n - 1 = omega (arith, less, some) in m)))
            (λ more. absurd (both_ways (starts_up_to p u)
            (subst (λ (v : Edge). starts_up_to p v ≡ false) (ap f c.2 ∙ same) (point.1 c.0 x more c.1)) (ap not from)))
            (cases_lt c.0 n)
