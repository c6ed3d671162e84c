-- Near each point there are points off all edges: steeply below it, where windings are as at the point, and steeply
-- above it. The way to them is steeper than each edge that is not upright.
use Rattle.std.proofs.Common.{◌≡◌, ◌⊎◌, inl, inr, ⊎_elim, true, cond, ℕ, ℤ, pos, negsuc, nat_abs, neg_ℤ}
use Rattle.std.proofs.Common.{◌+ℤ◌, ◌-ℤ◌, ◌*ℤ◌, ◌<ℤ◌, ◌≤ℤ◌, int_lt, List, [], ◌∷◌, ◌++◌, Contains, ap, ◌∙◌, subst}
use Rattle.std.proofs.Common.{sym, refl, suc, ◌+◌, arith}
use Rattle.std.proofs.lemmas.Bool.{and_parts, false_from_ne_true}
use Rattle.std.proofs.lemmas.Int.{ints, by_lt_z}
use Rattle.std.proofs.lemmas.List.Elements.{All-map, Contains-append_left, Contains-append_right}
use Rattle.overlay_geom.specs.Edges.{CountedEdge, ends_of, all_ends, winding_by}
use Rattle.overlay_geom.specs.Plane.{PlanePoint, Edge, IsOn, IsOff, IsBetween, side, is_strictly_below}
use Rattle.overlay_geom.proofs.AlongEdge.{sideE}
use Rattle.overlay_geom.proofs.Entries.{Contains-cases}
use Rattle.overlay_geom.proofs.Identities.{solve, number, ◌⊕◌, ◌⊗◌, ◌⊖◌, ⊝◌, ◌≗◌}
use Rattle.overlay_geom.proofs.Signs.{linear, by_sign, mul-pos, mul-le, mul-zero}
use Rattle.overlay_plane.specs.Heights.{width, covers}
use Rattle.overlay_plane.proofs.Entries.{all_of_entries}
use Rattle.overlay_plane.proofs.Tests.{lt_from_test}
use Rattle.overlay_plane.proofs.Totals.{total-same}
use Rattle.overlay_plane.proofs.Under.{covers_wide}
use Rattle.overlay_relate.specs.Closures.{AreWithinPart}
use Rattle.overlay_relate.proofs.NearPoints.{size, within_size, on_or_off, on_near, right_below}

-- ---- a number for all entries

-- the numbers of the entries, and 1
abbrev pub beyond : {X : Type 0} → (X → ℕ) → List X → ℤ
beyond f [] = pos 1
beyond f (x ∷ xs) = beyond f xs +ℤ pos (f x)

pub above_none : {X : Type 0} (f : X → ℕ) (xs : List X) → pos 0 <ℤ beyond f xs
above_none f [] = record { lt = tt }
above_none f (x ∷ xs) = let rest = above_none f xs in more (beyond f xs) (f x) rest
  where
    more : (z : ℤ) (n : ℕ) → pos 0 <ℤ z → pos 0 <ℤ (z +ℤ pos n)
    more z n h = omega (arith, ints)

-- it is greater than each of them
pub less_than_beyond : {X : Type 0} (f : X → ℕ) (xs : List X) (x : X) → Contains xs x → pos (f x) <ℤ beyond f xs
less_than_beyond f [] x c = elim c.1 [ ]
less_than_beyond {X} f (y ∷ ys) x c = ⊎_elim
    (λ is. subst (λ (z : X). pos (f z) <ℤ beyond f (y ∷ ys)) is (first (beyond f ys) (f y) (above_none f ys)))
    (λ later. further (f x) (beyond f ys) (f y) (less_than_beyond f ys x later)) (Contains-cases y ys x c)
  where
    first : (z : ℤ) (n : ℕ) → pos 0 <ℤ z → pos n <ℤ (z +ℤ pos n)
    first z n h = omega (arith, ints)

    further : (m : ℕ) (z : ℤ) (n : ℕ) → pos m <ℤ z → pos m <ℤ (z +ℤ pos n)
    further m z n h = omega (arith, ints)

-- ---- the point 1 / n d to the left of p and k / n d above, or as far to the right and below

-- with n = m k
abbrev pub steep : (s : ℤ) (m : ℕ) (k : ℤ) (p : PlanePoint) → pos 0 <ℤ ((pos m *ℤ k) *ℤ p.d) → PlanePoint
steep s m k p positive = record {
  x = (pos m *ℤ k) *ℤ p.x -ℤ s;
  y = (pos m *ℤ k) *ℤ p.y +ℤ s *ℤ k;
  d = (pos m *ℤ k) *ℤ p.d;
  positive = positive;
}

-- by how much the way up leads away from the edge
abbrev pub lean : ℤ → Edge → ℤ
lean k f = width f *ℤ k +ℤ (f.b.y -ℤ f.a.y)

-- an edge that is not upright leans away where k is greater than its height
pub leans_away : (k : ℤ) (f : Edge) → pos (nat_abs (f.b.y -ℤ f.a.y)) <ℤ k →
    ((pos 0 <ℤ width f → pos 0 <ℤ lean k f) × (width f <ℤ pos 0 → lean k f <ℤ pos 0))
leans_away k f steeper =
    let h = within_size (f.b.y -ℤ f.a.y) in
    let above = h.0 in
    let below = h.1 in
    let positive = from_size (nat_abs (f.b.y -ℤ f.a.y)) steeper in (
      λ wide. let more = mul-le k (pos 1) (width f) (omega linear) (omega linear) in
          let once = solve 1 (λ k. k ⊗ number (pos 1) ≗ k) tt k in
          let turned = solve 2 (λ k w. k ⊗ w ≗ w ⊗ k) tt k (width f) in
          omega linear,
      λ back. let more = mul-le k (width f) (negsuc 0) (omega linear) (omega linear) in
          let once = solve 1 (λ k. k ⊗ number (negsuc 0) ≗ ⊝ k) tt k in
          let turned = solve 2 (λ k w. k ⊗ w ≗ w ⊗ k) tt k (width f) in
          omega linear,
    )
  where
    from_size : (m : ℕ) → pos m <ℤ k → pos 0 <ℤ k
    from_size m h = omega (arith, ints)

-- the way is at most 1/m long in x
part_x : (m s k d : ℤ) → pos 0 ≤ℤ m → s ≤ℤ pos 1 → pos 0 <ℤ k → pos 0 <ℤ d →
    (m *ℤ (s *ℤ d)) ≤ℤ (((m *ℤ k) *ℤ d) *ℤ d)
part_x m s k d nonneg high some positive =
    let least = mul-pos k d some positive in
    let a = mul-le d s (pos 1) (omega linear) high in
    let b = mul-le d (pos 1) (k *ℤ d) (omega linear) (omega linear) in
    let c = mul-le m (d *ℤ s) (d *ℤ (k *ℤ d)) nonneg (omega linear) in
    let of_s = solve 3 (λ m s d. m ⊗ (s ⊗ d) ≗ m ⊗ (d ⊗ s)) tt m s d in
    let of_k = solve 3 (λ m k d. m ⊗ (d ⊗ (k ⊗ d)) ≗ ((m ⊗ k) ⊗ d) ⊗ d) tt m k d in
    omega linear

-- and in y
part_y : (m s k d : ℤ) → pos 0 ≤ℤ m → s ≤ℤ pos 1 → pos 0 <ℤ k → pos 0 <ℤ d →
    (m *ℤ ((s *ℤ k) *ℤ d)) ≤ℤ (((m *ℤ k) *ℤ d) *ℤ d)
part_y m s k d nonneg high some positive =
    let least = mul-pos k d some positive in
    let a = mul-le (k *ℤ d) s (pos 1) (omega linear) high in
    let b = mul-le (k *ℤ d) (pos 1) d (omega linear) (omega linear) in
    let c = mul-le m ((k *ℤ d) *ℤ s) ((k *ℤ d) *ℤ d) nonneg (omega linear) in
    let of_s = solve 4 (λ m s k d. m ⊗ ((s ⊗ k) ⊗ d) ≗ m ⊗ ((k ⊗ d) ⊗ s)) tt m s k d in
    let of_d = solve 3 (λ m k d. m ⊗ ((k ⊗ d) ⊗ d) ≗ ((m ⊗ k) ⊗ d) ⊗ d) tt m k d in
    omega linear

module _ (s : ℤ) (low : negsuc 0 ≤ℤ s) (high : s ≤ℤ pos 1) (m : ℕ) (k : ℤ) (some : pos 0 <ℤ k) (p : PlanePoint)
    (scaled : pos 0 <ℤ ((pos m *ℤ k) *ℤ p.d)) where
  abbrev n : ℤ
  n = pos m *ℤ k

  abbrev there : PlanePoint
  there = steep s m k p scaled

  -- how far it is across
  pub across_steep : there.x *ℤ p.d -ℤ p.x *ℤ there.d ≡ neg_ℤ s *ℤ p.d
  across_steep = solve 4 (λ s n x d. (n ⊗ x ⊖ s) ⊗ d ⊖ x ⊗ (n ⊗ d) ≗ ⊝ s ⊗ d) tt s n p.x p.d

  pub side_steep : (f : Edge) → side f there ≡ n *ℤ side f p +ℤ s *ℤ lean k f
  side_steep f = solve 10 (λ ax ay bx by x y d s n k. sideE ax ay bx by (n ⊗ x ⊖ s) (n ⊗ y ⊕ s ⊗ k) (n ⊗ d) ≗
      n ⊗ sideE ax ay bx by x y d ⊕ s ⊗ ((bx ⊖ ax) ⊗ k ⊕ (by ⊖ ay))) tt
      f.a.x f.a.y f.b.x f.b.y p.x p.y p.d s n k

  -- it is near p
  pub near_steep : AreWithinPart m there p
  near_steep = record {
    right = let is = ap (λ z. pos m *ℤ z) across_steep in
        let le = part_x (pos m) (neg_ℤ s) k p.d (nonneg m) (let l = low in omega linear) some p.positive in
        omega linear;
    left = let is = ap (λ z. pos m *ℤ z) (solve 4 (λ s n x d. x ⊗ (n ⊗ d) ⊖ (n ⊗ x ⊖ s) ⊗ d ≗ s ⊗ d) tt s n p.x p.d) in
        let le = part_x (pos m) s k p.d (nonneg m) high some p.positive in
        omega linear;
    up = let is = ap (λ z. pos m *ℤ z)
        (solve 5 (λ s k n y d. (n ⊗ y ⊕ s ⊗ k) ⊗ d ⊖ y ⊗ (n ⊗ d) ≗ (s ⊗ k) ⊗ d) tt s k n p.y p.d) in
        let le = part_y (pos m) s k p.d (nonneg m) high some p.positive in
        omega linear;
    down = let is = ap (λ z. pos m *ℤ z)
        (solve 5 (λ s k n y d. y ⊗ (n ⊗ d) ⊖ (n ⊗ y ⊕ s ⊗ k) ⊗ d ≗ (⊝ s ⊗ k) ⊗ d) tt s k n p.y p.d) in
        let le = part_y (pos m) (neg_ℤ s) k p.d (nonneg m) (let l = low in omega linear) some p.positive in
        omega linear;
  }
    where
      nonneg : (m : ℕ) → pos 0 ≤ℤ pos m
      nonneg m = omega (arith, ints)

  module _ (f : Edge) (steeper : pos (nat_abs (f.b.y -ℤ f.a.y)) <ℤ k) (on : IsOn f p) where
    -- the side of an edge with p
    pub side_from_on : side f there ≡ s *ℤ lean k f
    side_from_on = side_steep f ∙ ap (λ z. z +ℤ s *ℤ lean k f) (mul-zero n (side f p) on.on_line)
        ∙ solve 1 (λ z. number (pos 0) ⊕ z ≗ z) tt (s *ℤ lean k f)

    -- an edge with p does not have it
    pub off_steep : (s ≡ pos 1) ⊎ (s ≡ negsuc 0) → ¬ (IsOn f there)
    off_steep sign on_there = by_sign (width f)
        (λ back. let away = (leans_away k f steeper).1 back in absurd (not_level sign (λ zero. omega linear)))
        (λ upright. absurd (off_column upright))
        (λ wide. let away = (leans_away k f steeper).0 wide in absurd (not_level sign (λ zero. omega linear)))
      where
        level : s *ℤ lean k f ≡ pos 0
        level = sym side_from_on ∙ on_there.on_line

        not_level : (s ≡ pos 1) ⊎ (s ≡ negsuc 0) → ¬ (lean k f ≡ pos 0) → ⊥
        not_level (inl is) away = away (sym (ap (λ z. z *ℤ lean k f) is
            ∙ solve 1 (λ z. number (pos 1) ⊗ z ≗ z) tt (lean k f)) ∙ level)
        not_level (inr is) away = away (
            let turned = ap (λ z. z *ℤ lean k f) is
            ∙ solve 1 (λ z. number (negsuc 0) ⊗ z ≗ ⊝ z) tt (lean k f) in
            let l = level in
            omega linear)

        -- an upright edge has points of one x-coordinate
        column : width f ≡ pos 0 → (q : PlanePoint) → IsOn f q → q.x ≡ f.a.x *ℤ q.d
        column upright q at = by at.in_x
          where
            both : f.a.x *ℤ q.d ≡ f.b.x *ℤ q.d
            both = ap (λ z. z *ℤ q.d) (let is : f.a.x ≡ f.b.x = omega linear in is)

            by : IsBetween q.x (f.a.x *ℤ q.d) (f.b.x *ℤ q.d) → q.x ≡ f.a.x *ℤ q.d
            by (inl (from, to)) = let is = both in omega linear
            by (inr (from, to)) = let is = both in omega linear

        off_column : width f ≡ pos 0 → ⊥
        off_column upright =
            let at_p = ap (λ z. z *ℤ there.d) (column upright p on) in
            let at_q = ap (λ z. z *ℤ p.d) (column upright there on_there) in
            let turned = solve 3 (λ a d c. (a ⊗ d) ⊗ c ≗ (a ⊗ c) ⊗ d) tt f.a.x p.d there.d in
            let is = across_steep in
            moved sign (omega linear)
          where
            moved : (s ≡ pos 1) ⊎ (s ≡ negsuc 0) → neg_ℤ s *ℤ p.d ≡ pos 0 → ⊥
            moved (inl one) zero =
                let is = ap (λ z. neg_ℤ z *ℤ p.d) one ∙ solve 1 (λ d. ⊝ (number (pos 1)) ⊗ d ≗ ⊝ d) tt p.d in
                let d = p.positive in
                omega linear
            moved (inr one) zero =
                let is = ap (λ z. neg_ℤ z *ℤ p.d) one ∙ solve 1 (λ d. ⊝ (number (negsuc 0)) ⊗ d ≗ d) tt p.d in
                let d = p.positive in
                omega linear

-- ---- off all edges

-- how near and how steep the way is for the edges, at p
abbrev pub edge_size : CountedEdge → ℕ
edge_size e = nat_abs (size (ends_of e))

abbrev pub edge_height : CountedEdge → ℕ
edge_height e = nat_abs (e.b.y -ℤ e.a.y)

abbrev pub closeness : ℕ → List CountedEdge → PlanePoint → ℕ
closeness n es p = suc (n + nat_abs (beyond edge_size es *ℤ p.d))

module _ (n : ℕ) (es : List CountedEdge) (p : PlanePoint) where
  abbrev pub steepness : ℤ
  steepness = beyond edge_height es

  pub some_steepness : pos 0 <ℤ steepness
  some_steepness = above_none edge_height es

  pub scaled_by : pos 0 <ℤ ((pos (closeness n es p) *ℤ steepness) *ℤ p.d)
  scaled_by = mul-pos (pos (closeness n es p) *ℤ steepness) p.d
      (mul-pos (pos (closeness n es p)) steepness (one_more (n + nat_abs (beyond edge_size es *ℤ p.d))) some_steepness)
      p.positive
    where
      one_more : (m : ℕ) → pos 0 <ℤ pos (suc m)
      one_more m = omega (arith, ints)

  -- each edge is small enough, and not as steep
  pub fits_closeness : (e : CountedEdge) → Contains es e → (size (ends_of e) *ℤ p.d) <ℤ pos (closeness n es p)
  fits_closeness e c =
      let size_of_e = within_size (size (ends_of e)) in
      let size_high = size_of_e.1 in
      let less = less_than_beyond edge_size es e c in
      let more = mul-le p.d (size (ends_of e)) (beyond edge_size es) (let d = p.positive in omega linear)
      (omega linear) in
      let turned = solve 2 (λ s d. s ⊗ d ≗ d ⊗ s) tt (size (ends_of e)) p.d in
      let turned_all = solve 2 (λ s d. s ⊗ d ≗ d ⊗ s) tt (beyond edge_size es) p.d in
      let size_of_all = within_size (beyond edge_size es *ℤ p.d) in
      let all_high = size_of_all.1 in
      let last = further n (nat_abs (beyond edge_size es *ℤ p.d)) in
      omega linear
    where
      further : (k m : ℕ) → pos m <ℤ pos (suc (k + m))
      further k m = omega (arith, ints)

  pub not_as_steep : (e : CountedEdge) → Contains es e → pos (nat_abs (e.b.y -ℤ e.a.y)) <ℤ steepness
  not_as_steep e c = less_than_beyond edge_height es e c

  -- the steep points are off the edges
  module _ (s : ℤ) (sign : (s ≡ pos 1) ⊎ (s ≡ negsuc 0)) where
    low : negsuc 0 ≤ℤ s
    low = ⊎_elim (λ is. omega linear) (λ is. omega linear) sign

    high : s ≤ℤ pos 1
    high = ⊎_elim (λ is. omega linear) (λ is. omega linear) sign

    abbrev pub steep_point : PlanePoint
    steep_point = steep s (closeness n es p) steepness p scaled_by

    pub steep_close : AreWithinPart (closeness n es p) steep_point p
    steep_close = near_steep s low high (closeness n es p) steepness some_steepness p scaled_by

    pub off_steep_point : (e : CountedEdge) → Contains es e → ¬ (IsOn (ends_of e) steep_point)
    off_steep_point e c on = ⊎_elim
        (λ on_p. off_steep s low high (closeness n es p) steepness some_steepness p scaled_by (ends_of e)
        (not_as_steep e c) on_p sign on)
        (λ off_p. off_p (on_near (closeness n es p) p steep_point steep_close (ends_of e) (fits_closeness e c) on))
        (on_or_off (ends_of e) p)

-- a point nearer than 1/m is nearer than 1/n, with n up to m
pub less_near : (n k : ℕ) (q p : PlanePoint) → AreWithinPart (suc (n + k)) q p → AreWithinPart n q p
less_near n k q p near = record {
  right = fewer (q.x *ℤ p.d -ℤ p.x *ℤ q.d) near.right;
  left = fewer (p.x *ℤ q.d -ℤ q.x *ℤ p.d) near.left;
  up = fewer (q.y *ℤ p.d -ℤ p.y *ℤ q.d) near.up;
  down = fewer (p.y *ℤ q.d -ℤ q.y *ℤ p.d) near.down;
}
  where
    fewer : (z : ℤ) → (pos (suc (n + k)) *ℤ z) ≤ℤ (q.d *ℤ p.d) → (pos n *ℤ z) ≤ℤ (q.d *ℤ p.d)
    fewer z le = by_lt_z (pos 0) z
        (λ some.
        let more = mul-le z (pos n) (pos (suc (n + k))) (omega linear) (omega (arith, ints)) in
        let of_n = solve 2 (λ z n. z ⊗ n ≗ n ⊗ z) tt z (pos n) in
        let of_more = solve 2 (λ z n. z ⊗ n ≗ n ⊗ z) tt z (pos (suc (n + k))) in
        omega linear)
        (λ none.
        let least = mul-le (pos n) z (pos 0) (omega (arith, ints)) none in
        let zero = mul-zero (pos n) (pos 0) refl in
        let positive = mul-pos q.d p.d q.positive p.positive in
        omega linear)

-- ---- steeply below a point

-- a point near p that is off the edges of both lists, and round which the first winds as round p
pub record HasPointNear (n : ℕ) (es more : List CountedEdge) (p : PlanePoint) : Type 0 where
  pub near : PlanePoint
  pub close : AreWithinPart n near p
  pub off : IsOff (all_ends es) near
  pub off_more : IsOff (all_ends more) near
  pub same : (count : CountedEdge → ℤ) → winding_by count es near ≡ winding_by count es p

module _ (n : ℕ) (es more : List CountedEdge) (p : PlanePoint) where
  abbrev below : PlanePoint
  below = steep_point n (es ++ more) p (negsuc 0) (inr refl)

  close_below : AreWithinPart (closeness n (es ++ more) p) below p
  close_below = steep_close n (es ++ more) p (negsuc 0) (inr refl)

  off_below : (e : CountedEdge) → Contains (es ++ more) e → ¬ (IsOn (ends_of e) below)
  off_below = off_steep_point n (es ++ more) p (negsuc 0) (inr refl)

  -- an edge is strictly below both points or neither
  same_below : (e : CountedEdge) → Contains (es ++ more) e →
      is_strictly_below (ends_of e) below ≡ is_strictly_below (ends_of e) p
  same_below e c = ⊎_elim at_edge
      (λ off. right_below (closeness n (es ++ more) p) p below close_below (ends_of e)
      (fits_closeness n (es ++ more) p e c) off
      (let is = across_steep (negsuc 0) least most (closeness n (es ++ more) p) (steepness n (es ++ more) p)
      (some_steepness n (es ++ more) p) p (scaled_by n (es ++ more) p) in
      let once = solve 1 (λ d. ⊝ (number (negsuc 0)) ⊗ d ≗ d) tt p.d in
      let d = p.positive in
      omega linear))
      (on_or_off (ends_of e) p)
    where
      least : negsuc 0 ≤ℤ negsuc 0
      least = omega linear

      most : negsuc 0 ≤ℤ pos 1
      most = omega linear

      at_edge : IsOn (ends_of e) p → is_strictly_below (ends_of e) below ≡ is_strictly_below (ends_of e) p
      at_edge on = false_from_ne_true (is_strictly_below (ends_of e) below) not_there
          ∙ sym (false_from_ne_true (is_strictly_below (ends_of e) p) not_here)
        where
          not_here : ¬ (is_strictly_below (ends_of e) p ≡ true)
          not_here t =
              let high = lt_from_test (pos 0) (side (ends_of e) p)
              (and_parts (covers (ends_of e) p.x p.d) (int_lt (pos 0) (side (ends_of e) p)) t).1 in
              let level = on.on_line in
              omega linear

          not_there : ¬ (is_strictly_below (ends_of e) below ≡ true)
          not_there t =
              let parts = and_parts (covers (ends_of e) below.x below.d) (int_lt (pos 0) (side (ends_of e) below)) t in
              let high = lt_from_test (pos 0) (side (ends_of e) below) parts.1 in
              let wide = covers_wide (ends_of e) below.x below.d below.positive parts.0 in
              let away = (leans_away (steepness n (es ++ more) p) (ends_of e) (not_as_steep n (es ++ more) p e c)).0
              wide in
              let is = side_from_on (negsuc 0) least most (closeness n (es ++ more) p) (steepness n (es ++ more) p)
              (some_steepness n (es ++ more) p) p (scaled_by n (es ++ more) p) (ends_of e)
              (not_as_steep n (es ++ more) p e c) on in
              let turned = solve 1 (λ z. number (negsuc 0) ⊗ z ≗ ⊝ z) tt
              (lean (steepness n (es ++ more) p) (ends_of e)) in
              omega linear

  pub point_near : HasPointNear n es more p
  point_near = record {
    near = below;
    close = less_near n (nat_abs (beyond edge_size (es ++ more) *ℤ p.d)) below p close_below;
    off = All-map (λ f. ¬ (IsOn f below)) ends_of es (all_of_entries (λ e. ¬ (IsOn (ends_of e) below)) es
        (λ e c. off_below e (Contains-append_left es more e c)));
    off_more = All-map (λ f. ¬ (IsOn f below)) ends_of more (all_of_entries (λ e. ¬ (IsOn (ends_of e) below)) more
        (λ e c. off_below e (Contains-append_right es more e c)));
    same = λ count. total-same (λ f. cond (is_strictly_below (ends_of f) below) (count f) (pos 0))
        (λ f. cond (is_strictly_below (ends_of f) p) (count f) (pos 0)) es
        (λ f c. ap (λ t. cond t (count f) (pos 0)) (same_below f (Contains-append_left es more f c)));
  }
