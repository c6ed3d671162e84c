-- Each sector round p has points near p that are off all edges, with its winding.
use Rattle.std.proofs.Common.{◌≡◌, ◌⊎◌, inl, inr, ⊎_elim, Bool, true, false, ℕ, suc, ◌+◌, ℤ, pos, negsuc}
use Rattle.std.proofs.Common.{nat_abs, neg_ℤ, ◌+ℤ◌, ◌-ℤ◌, ◌*ℤ◌, ◌<ℤ◌, ◌≤ℤ◌, int_lt, List, Contains}
use Rattle.std.proofs.Common.{refl, sym, ap, ◌∙◌, arith}
use Rattle.std.specs.Prelude.{Option, Some, None}
use Rattle.std.specs.Ordering.{int_eq}
use Rattle.std.proofs.lemmas.Bool.{and_parts, both_ways}
use Rattle.std.proofs.lemmas.Int.{ints, by_lt_z}
use Rattle.std.proofs.lemmas.List.Elements.{All-map}
use Rattle.overlay_geom.specs.Edges.{CountedEdge, ends_of, all_ends, winding_by}
use Rattle.overlay_geom.specs.Plane.{PlanePoint, Edge, IsOn, IsOff, IsBetween, side, in_plane}
use Rattle.overlay_geom.proofs.AlongEdge.{sideE}
use Rattle.overlay_geom.proofs.Identities.{solve, number, ◌⊕◌, ◌⊗◌, ◌⊖◌, ⊝◌, ◌≗◌}
use Rattle.overlay_geom.proofs.Signs.{linear, mul-pos, mul-neg, mul-le, mul-nonneg, mul-zero}
use Rattle.overlay_geom.proofs.Signs.{zero_of_mul-zero}
use Rattle.overlay_plane.specs.Heights.{width}
use Rattle.overlay_plane.proofs.Entries.{all_of_entries}
use Rattle.overlay_plane.proofs.Tests.{le_from_test, gt_from_test, test_from_lt, test_from_ge}
use Rattle.overlay_relate.specs.Closures.{AreWithinPart}
use Rattle.overlay_relate.proofs.NearPoints.{within_size, on_near}
use Rattle.overlay_relate.proofs.SteepPoints.{beyond, above_none, less_than_beyond, edge_size, edge_height, closeness}
use Rattle.overlay_relate.proofs.SteepPoints.{fits_closeness, less_near}
use Rattle.overlay_sectors.specs.Sectors.{spans_beside, far_end, leads_from, is_low, winding_near, IsSector}
use Rattle.overlay_sectors.specs.declared.flank.Flank.{Flank}
use Rattle.overlay_sectors.specs.declared.flank.Flank.TheVariants.{Left, Right}
use Rattle.overlay_sectors.proofs.NearSectors.{across, IsOnFlank, near_winding}
use Rattle.overlay_sectors.proofs.NearTells.{same_near}
use Rattle.overlay_sectors.proofs.TopRays.{height, ray_of, end_right, end_left}

-- ---- the point that is the way (x, y) away, over (m k) d

-- a number that no coordinate of the way reaches
abbrev pub length_of : ℤ → ℤ → ℤ
length_of x y = pos (nat_abs x) +ℤ pos (nat_abs y) +ℤ pos 1

abbrev pub by_way : (x y m : ℤ) (p : PlanePoint) → pos 0 <ℤ ((m *ℤ length_of x y) *ℤ p.d) → PlanePoint
by_way x y m p positive = record {
  x = (m *ℤ length_of x y) *ℤ p.x +ℤ x;
  y = (m *ℤ length_of x y) *ℤ p.y +ℤ y;
  d = (m *ℤ length_of x y) *ℤ p.d;
  positive = positive;
}

-- a coordinate of the way is at most 1/m
near_part : (m k z d : ℤ) → pos 0 ≤ℤ m → z ≤ℤ k → pos 0 ≤ℤ k → pos 0 <ℤ d →
    (m *ℤ (z *ℤ d)) ≤ℤ (((m *ℤ k) *ℤ d) *ℤ d)
near_part m k z d nonneg high some positive =
    let a = mul-le d z k (omega linear) high in
    let b = mul-le (d *ℤ k) (pos 1) d (mul-nonneg d k (omega linear) some) (omega linear) in
    let c = mul-le m (d *ℤ z) ((d *ℤ k) *ℤ d) nonneg
    (let once = solve 1 (λ z. z ⊗ number (pos 1) ≗ z) tt (d *ℤ k) in omega linear) in
    let of_z = solve 3 (λ m z d. m ⊗ (z ⊗ d) ≗ m ⊗ (d ⊗ z)) tt m z d in
    let of_k = solve 3 (λ m k d. m ⊗ ((d ⊗ k) ⊗ d) ≗ ((m ⊗ k) ⊗ d) ⊗ d) tt m k d in
    omega linear

module _ (x y : ℤ) (m : ℕ) (p : PlanePoint) (scaled : pos 0 <ℤ ((pos m *ℤ length_of x y) *ℤ p.d)) where
  abbrev there : PlanePoint
  there = by_way x y (pos m) p scaled

  abbrev n : ℤ
  n = pos m *ℤ length_of x y

  pub across_way : across p there ≡ x *ℤ p.d
  across_way = solve 4 (λ n x u d. (n ⊗ x ⊕ u) ⊗ d ⊖ x ⊗ (n ⊗ d) ≗ u ⊗ d) tt n p.x x p.d

  pub side_way : (f : Edge) → side f there ≡ n *ℤ side f p +ℤ (width f *ℤ y -ℤ height f *ℤ x)
  side_way f = solve 10 (λ ax ay bx by x y d u v n. sideE ax ay bx by (n ⊗ x ⊕ u) (n ⊗ y ⊕ v) (n ⊗ d) ≗
      n ⊗ sideE ax ay bx by x y d ⊕ ((bx ⊖ ax) ⊗ v ⊖ (by ⊖ ay) ⊗ u)) tt
      f.a.x f.a.y f.b.x f.b.y p.x p.y p.d x y n

  side_on : (f : Edge) → side f p ≡ pos 0 → side f there ≡ width f *ℤ y -ℤ height f *ℤ x
  side_on f on =
      let is = side_way f in
      let none = mul-zero n (side f p) on in
      omega linear

  pub near_way : AreWithinPart m there p
  near_way = record {
    right = let is = ap (λ z. pos m *ℤ z) across_way in
        let le = near_part (pos m) (length_of x y) x p.d (nonneg m) up_to_x some p.positive in
        omega linear;
    left = let is = ap (λ z. pos m *ℤ z)
        (solve 4 (λ n x u d. x ⊗ (n ⊗ d) ⊖ (n ⊗ x ⊕ u) ⊗ d ≗ ⊝ u ⊗ d) tt n p.x x p.d) in
        let le = near_part (pos m) (length_of x y) (neg_ℤ x) p.d (nonneg m) down_to_x some p.positive in
        omega linear;
    up = let is = ap (λ z. pos m *ℤ z)
        (solve 4 (λ n x u d. (n ⊗ x ⊕ u) ⊗ d ⊖ x ⊗ (n ⊗ d) ≗ u ⊗ d) tt n p.y y p.d) in
        let le = near_part (pos m) (length_of x y) y p.d (nonneg m) up_to_y some p.positive in
        omega linear;
    down = let is = ap (λ z. pos m *ℤ z)
        (solve 4 (λ n x u d. x ⊗ (n ⊗ d) ⊖ (n ⊗ x ⊕ u) ⊗ d ≗ ⊝ u ⊗ d) tt n p.y y p.d) in
        let le = near_part (pos m) (length_of x y) (neg_ℤ y) p.d (nonneg m) down_to_y some p.positive in
        omega linear;
  }
    where
      nonneg : (m : ℕ) → pos 0 ≤ℤ pos m
      nonneg m = omega (arith, ints)

      more : (z : ℤ) (a b : ℕ) → z ≤ℤ pos a → z ≤ℤ (pos a +ℤ pos b +ℤ pos 1)
      more z a b le = omega (arith, ints)

      more_of : (z : ℤ) (a b : ℕ) → z ≤ℤ pos b → z ≤ℤ (pos a +ℤ pos b +ℤ pos 1)
      more_of z a b le = omega (arith, ints)

      some : pos 0 ≤ℤ length_of x y
      some = more (pos 0) (nat_abs x) (nat_abs y) (nonneg (nat_abs x))

      up_to_x : x ≤ℤ length_of x y
      up_to_x = more x (nat_abs x) (nat_abs y) (within_size x).1

      down_to_x : neg_ℤ x ≤ℤ length_of x y
      down_to_x = more (neg_ℤ x) (nat_abs x) (nat_abs y) (let h = (within_size x).0 in omega linear)

      up_to_y : y ≤ℤ length_of x y
      up_to_y = more_of y (nat_abs x) (nat_abs y) (within_size y).1

      down_to_y : neg_ℤ y ≤ℤ length_of x y
      down_to_y = more_of (neg_ℤ y) (nat_abs x) (nat_abs y) (let h = (within_size y).0 in omega linear)

-- ---- a way that no edge takes

-- the way leads above the edges that lead from p and are low, and below the others
pub record LeadsAmong (x y : ℤ) (low : Edge → Bool) (f : Edge) : Type 0 where
  pub above : low f ≡ true → pos 0 <ℤ (width f *ℤ y -ℤ height f *ℤ x)
  pub below : low f ≡ false → (width f *ℤ y -ℤ height f *ℤ x) <ℤ pos 0

-- a point near p and off the edges, with the winding of a sector
pub record HasSectorPoint (k : ℕ) (h : Flank) (es : List CountedEdge) (p : PlanePoint)
    (low : Edge → Bool) : Type 0 where
  pub near : PlanePoint
  pub close : AreWithinPart k near p
  pub off : IsOff (all_ends es) near
  pub winds : (count : CountedEdge → ℤ) → winding_by count es near ≡ winding_near h count es p low

-- this way leads into the flank
abbrev pub LeadsInto : Flank → ℤ → Type 0
LeadsInto Right x = pos 0 <ℤ x
LeadsInto Left x = x <ℤ pos 0

module _ (k : ℕ) (h : Flank) (es : List CountedEdge) (p : PlanePoint) (low : Edge → Bool) (x y : ℤ)
    (into : LeadsInto h x) (forward : (e : CountedEdge) → Contains es e → pos 0 ≤ℤ width (ends_of e))
    (among : (e : CountedEdge) → Contains es e → pos 0 <ℤ width (ends_of e) → side (ends_of e) p ≡ pos 0 →
    LeadsAmong x y low (ends_of e)) where
  abbrev m : ℕ
  m = closeness k es p

  scaled : pos 0 <ℤ ((pos m *ℤ length_of x y) *ℤ p.d)
  scaled = mul-pos (pos m *ℤ length_of x y) p.d
      (mul-pos (pos m) (length_of x y) (one_more (k + nat_abs (beyond edge_size es *ℤ p.d)))
      (some (nat_abs x) (nat_abs y))) p.positive
    where
      one_more : (m : ℕ) → pos 0 <ℤ pos (suc m)
      one_more m = omega (arith, ints)

      some : (a b : ℕ) → pos 0 <ℤ (pos a +ℤ pos b +ℤ pos 1)
      some a b = omega (arith, ints)

  abbrev q : PlanePoint
  q = by_way x y (pos m) p scaled

  close : AreWithinPart m q p
  close = near_way x y m p scaled

  on_flank : IsOnFlank h p q
  on_flank = by h into
    where
      by : (g : Flank) → LeadsInto g x → IsOnFlank g p q
      by Right right =
          let is = across_way x y m p scaled in
          let some = mul-pos x p.d right p.positive in
          omega linear
      by Left left =
          let is = across_way x y m p scaled in
          let turned = solve 2 (λ x d. x ⊗ d ≗ d ⊗ x) tt x p.d in
          let less = mul-neg p.d x p.positive left in
          omega linear

  aside : ¬ (across p q ≡ pos 0)
  aside zero = by h into
    where
      none : x ≡ pos 0
      none = zero_of_mul-zero p.d x p.positive
          (let is = across_way x y m p scaled in
          let turned = solve 2 (λ x d. x ⊗ d ≗ d ⊗ x) tt x p.d in
          omega linear)

      by : (g : Flank) → LeadsInto g x → ⊥
      by Right right = let is = none in omega linear
      by Left left = let is = none in omega linear

  -- an edge with q has p, so q is on its line only where the way is along it
  off_entry : (e : CountedEdge) → Contains es e → ¬ (IsOn (ends_of e) q)
  off_entry e c on =
      let on_p = on_near m p q close (ends_of e) (fits_closeness k es p e c) on in
      by_lt_z (pos 0) (width (ends_of e))
      (λ wide.
      let leads = among e c wide on_p.on_line in
      let is = side_on x y m p scaled (ends_of e) on_p.on_line in
      let level = on.on_line in
      by (low (ends_of e)) refl leads (omega linear))
      (λ narrow. aside (
      let wide = forward e c in
      let same = ap (λ z. z *ℤ q.d) (column (omega linear) p on_p) in
      let there = ap (λ z. z *ℤ p.d) (column (omega linear) q on) in
      let turned = solve 3 (λ a d c. (a ⊗ d) ⊗ c ≗ (a ⊗ c) ⊗ d) tt e.a.x p.d q.d in
      omega linear))
    where
      by : (t : Bool) → low (ends_of e) ≡ t → LeadsAmong x y low (ends_of e) →
          width (ends_of e) *ℤ y -ℤ height (ends_of e) *ℤ x ≡ pos 0 → ⊥
      by true is leads zero = let high = leads.above is in omega linear
      by false is leads zero = let less = leads.below is in omega linear

      -- an upright edge has points of one x-coordinate
      column : width (ends_of e) ≡ pos 0 → (r : PlanePoint) → IsOn (ends_of e) r → r.x ≡ e.a.x *ℤ r.d
      column upright r at = between at.in_x
        where
          both : e.a.x *ℤ r.d ≡ e.b.x *ℤ r.d
          both = ap (λ z. z *ℤ r.d) (let is : e.a.x ≡ e.b.x = omega linear in is)

          between : IsBetween r.x (e.a.x *ℤ r.d) (e.b.x *ℤ r.d) → r.x ≡ e.a.x *ℤ r.d
          between (inl (from, to)) = let is = both in omega linear
          between (inr (from, to)) = let is = both in omega linear

  -- the low edges are those below q
  same_low : (e : CountedEdge) → Contains es e → leads_from h (ends_of e) p ≡ true →
      int_lt (pos 0) (side (ends_of e) q) ≡ low (ends_of e)
  same_low e c leads =
      let ray = ray_of h (ends_of e) p leads in
      let is = side_on x y m p scaled (ends_of e) ray.level in
      by (low (ends_of e)) refl (among e c ray.wide ray.level) is
    where
      by : (t : Bool) → low (ends_of e) ≡ t → LeadsAmong x y low (ends_of e) →
          side (ends_of e) q ≡ width (ends_of e) *ℤ y -ℤ height (ends_of e) *ℤ x →
          int_lt (pos 0) (side (ends_of e) q) ≡ low (ends_of e)
      by true is among at =
          let high = among.above is in
          test_from_lt (pos 0) (side (ends_of e) q) (omega linear) ∙ sym is
      by false is among at =
          let less = among.below is in
          test_from_ge (pos 0) (side (ends_of e) q) (omega linear) ∙ sym is

  pub point_by_way : HasSectorPoint k h es p low
  point_by_way = record {
    near = q;
    close = less_near k (nat_abs (beyond edge_size es *ℤ p.d)) q p close;
    off = All-map (λ f. ¬ (IsOn f q)) ends_of es (all_of_entries (λ e. ¬ (IsOn (ends_of e) q)) es off_entry);
    winds = λ count. near_winding m p q close h on_flank count es (fits_closeness k es p)
        ∙ same_near h count es p (λ f. int_lt (pos 0) (side f q)) low same_low;
  }

-- ---- the ways into the sectors

abbrev pub edge_width : CountedEdge → ℕ
edge_width e = nat_abs (width (ends_of e))

module _ (k : ℕ) (es : List CountedEdge) (p : PlanePoint)
    (forward : (e : CountedEdge) → Contains es e → pos 0 ≤ℤ width (ends_of e)) where
  -- one step down steeply leads into the lowest sector
  lowest_among : (x : ℤ) → (x ≡ pos 1) ⊎ (x ≡ negsuc 0) → (h : Flank) → (e : CountedEdge) → Contains es e →
      pos 0 <ℤ width (ends_of e) → LeadsAmong x (neg_ℤ (beyond edge_height es)) (is_low h None) (ends_of e)
  lowest_among x unit h e c wide = record {
    above = λ t. absurd (both_ways false refl t);
    below = λ t.
        let less = less_than_beyond edge_height es e c in
        let sizes = within_size (height (ends_of e)) in
        let low = sizes.0 in
        let high = sizes.1 in
        let steep = above_none edge_height es in
        let more = mul-le (beyond edge_height es) (pos 1) (width (ends_of e)) (omega linear) (omega linear) in
        let once = solve 1 (λ z. z ⊗ number (pos 1) ≗ z) tt (beyond edge_height es) in
        let turned = solve 2 (λ s w. w ⊗ ⊝ s ≗ ⊝ (s ⊗ w)) tt (beyond edge_height es) (width (ends_of e)) in
        ⊎_elim
        (λ is. let by_x = ap (λ z. height (ends_of e) *ℤ z) is in
        let one = solve 1 (λ z. z ⊗ number (pos 1) ≗ z) tt (height (ends_of e)) in omega linear)
        (λ is. let by_x = ap (λ z. height (ends_of e) *ℤ z) is in
        let one = solve 1 (λ z. z ⊗ number (negsuc 0) ≗ ⊝ z) tt (height (ends_of e)) in omega linear)
        unit;
  }

  in_lowest : (h : Flank) → HasSectorPoint k h es p (is_low h None)
  in_lowest Right = point_by_way k Right es p (is_low Right None) (pos 1) (neg_ℤ (beyond edge_height es))
      (omega linear) forward (λ e c wide level. lowest_among (pos 1) (inl refl) Right e c wide)
  in_lowest Left = point_by_way k Left es p (is_low Left None) (negsuc 0) (neg_ℤ (beyond edge_height es))
      (omega linear) forward (λ e c wide level. lowest_among (negsuc 0) (inr refl) Left e c wide)

  module _ (h : Flank) (ray : Edge) (leads : leads_from h ray p ≡ true) where
    -- the way to the edge's end
    abbrev x : ℤ
    x = (far_end h ray).x *ℤ p.d -ℤ p.x

    abbrev y : ℤ
    y = (far_end h ray).y *ℤ p.d -ℤ p.y

    abbrev many : ℤ
    many = beyond edge_width es

    -- many times that, and one up, leads into the sector next above the edge
    way_turned : (f : Edge) → side f p ≡ pos 0 → width f *ℤ (many *ℤ y +ℤ pos 1) -ℤ height f *ℤ (many *ℤ x)
        ≡ many *ℤ (p.d *ℤ side f (in_plane (far_end h ray))) +ℤ width f
    way_turned f on =
        let is = solve 10 (λ ax ay bx by x y d u v n.
        (bx ⊖ ax) ⊗ (n ⊗ (v ⊗ d ⊖ y) ⊕ number (pos 1)) ⊖ (by ⊖ ay) ⊗ (n ⊗ (u ⊗ d ⊖ x)) ≗
        (n ⊗ (d ⊗ sideE ax ay bx by u v (number (pos 1))) ⊕ (bx ⊖ ax)) ⊖ n ⊗ sideE ax ay bx by x y d) tt
        f.a.x f.a.y f.b.x f.b.y p.x p.y p.d (far_end h ray).x (far_end h ray).y many in
        let none = mul-zero many (side f p) on in
        omega linear

    ray_among : (e : CountedEdge) → Contains es e → pos 0 <ℤ width (ends_of e) → side (ends_of e) p ≡ pos 0 →
        LeadsAmong (many *ℤ x) (many *ℤ y +ℤ pos 1) (is_low h (Some ray)) (ends_of e)
    ray_among e c wide level = record {
      above = λ t.
          let up = le_from_test (pos 0) (side (ends_of e) (in_plane (far_end h ray))) t in
          let some = mul-nonneg p.d (side (ends_of e) (in_plane (far_end h ray)))
          (let d = p.positive in omega linear) up in
          let positive = above_none edge_width es in
          let more = mul-nonneg many (p.d *ℤ side (ends_of e) (in_plane (far_end h ray))) (omega linear) some in
          let is = way_turned (ends_of e) level in
          omega linear;
      below = λ t.
          let down = gt_from_test (pos 0) (side (ends_of e) (in_plane (far_end h ray))) t in
          let some = mul-neg p.d (side (ends_of e) (in_plane (far_end h ray))) p.positive down in
          let positive = above_none edge_width es in
          let less = less_than_beyond edge_width es e c in
          let sizes = within_size (width (ends_of e)) in
          let high = sizes.1 in
          let more = mul-le many (p.d *ℤ side (ends_of e) (in_plane (far_end h ray))) (negsuc 0)
          (omega linear) (omega linear) in
          let once = solve 1 (λ z. z ⊗ number (negsuc 0) ≗ ⊝ z) tt many in
          let is = way_turned (ends_of e) level in
          omega linear;
    }

    spans : spans_beside h ray p ≡ true
    spans = (and_parts (spans_beside h ray p) (int_eq (side ray p) (pos 0)) leads).0

    into : LeadsInto h (many *ℤ x)
    into = by h spans
      where
        by : (g : Flank) → spans_beside g ray p ≡ true → LeadsInto g (many *ℤ ((far_end g ray).x *ℤ p.d -ℤ p.x))
        by Right t = mul-pos many (ray.b.x *ℤ p.d -ℤ p.x) (above_none edge_width es) (end_right ray p t)
        by Left t = mul-neg many (ray.a.x *ℤ p.d -ℤ p.x) (above_none edge_width es) (end_left ray p t)

    in_above : HasSectorPoint k h es p (is_low h (Some ray))
    in_above = point_by_way k h es p (is_low h (Some ray)) (many *ℤ x) (many *ℤ y +ℤ pos 1) into forward ray_among

  -- each sector has such a point
  pub sector_point : (h : Flank) (sector : Option Edge) → IsSector h es p sector →
      HasSectorPoint k h es p (is_low h sector)
  sector_point h None is = in_lowest h
  sector_point h (Some ray) is = in_above h ray is.3
