-- Distances of points along an edge, by their products with its direction. Points of its line at equal distance are
-- equal, and a point between two others is a mixture of them.
use Rattle.std.proofs.Common.{◌≡◌, ℤ, pos, neg_ℤ, ◌+ℤ◌, ◌-ℤ◌, ◌*ℤ◌, ◌<ℤ◌, ◌≤ℤ◌, sym, ap, ap₂, ◌∙◌}
use Rattle.std.proofs.lemmas.Int.{by_lt_z}
use Rattle.overlay_geom.specs.Plane.{PlanePoint, Edge, SamePlace, IsOn, side, in_plane}
use Rattle.overlay_geom.proofs.AlongEdge.{sideE}
use Rattle.overlay_geom.proofs.Identities.{solve, number, ◌⊕◌, ◌⊗◌, ◌⊖◌, ⊝◌, ◌≗◌}
use Rattle.overlay_geom.proofs.MeansOfEnds.{MeanOfEnds, mean_of_ends}
use Rattle.overlay_geom.proofs.PointOrder.{IsBefore}
use Rattle.overlay_geom.proofs.Signs.{linear, mul-pos, mul-nonneg, mul-zero, eq_of_mul-eq, le_of_mul-le}
use Rattle.overlay_plane.proofs.Mixtures.{mixture}
use Rattle.overlay_plane.proofs.Turning.{square_nonneg}

-- how far p is along the direction of e, over its denominator
abbrev pub way : Edge → PlanePoint → ℤ
way e p = (e.b.x -ℤ e.a.x) *ℤ p.x +ℤ (e.b.y -ℤ e.a.y) *ℤ p.y

-- the square of the length of e
abbrev length_squared : Edge → ℤ
length_squared e = (e.b.x -ℤ e.a.x) *ℤ (e.b.x -ℤ e.a.x) +ℤ (e.b.y -ℤ e.a.y) *ℤ (e.b.y -ℤ e.a.y)

-- a forward edge is not empty
length-positive : (e : Edge) → IsBefore e.a e.b → pos 0 <ℤ length_squared e
length-positive e before =
    let in_x = square_nonneg (e.b.x -ℤ e.a.x) in
    let in_y = square_nonneg (e.b.y -ℤ e.a.y) in
    by_lt_z e.a.x e.b.x
    (λ wide. let some = mul-pos (e.b.x -ℤ e.a.x) (e.b.x -ℤ e.a.x) (omega linear) (omega linear) in omega linear)
    (λ upright.
    let up = before.y upright in
    let some = mul-pos (e.b.y -ℤ e.a.y) (e.b.y -ℤ e.a.y) (omega linear) (omega linear) in
    omega linear)

-- ---- coordinates that follow from the way: l times one is k times the way and h times the denominator

-- they are equal where the ways are
same_coordinate : (l k h u c x v d y : ℤ) → pos 0 <ℤ l → l *ℤ x ≡ k *ℤ u +ℤ h *ℤ c → l *ℤ y ≡ k *ℤ v +ℤ h *ℤ d →
    u *ℤ d ≡ v *ℤ c → x *ℤ d ≡ y *ℤ c
same_coordinate l k h u c x v d y positive at_x at_y same =
    eq_of_mul-eq l (x *ℤ d) (y *ℤ c) positive
    (solve 3 (λ l x d. l ⊗ (x ⊗ d) ≗ d ⊗ (l ⊗ x)) tt l x d
    ∙ ap (λ z. d *ℤ z) at_x
    ∙ solve 5 (λ k h u c d. d ⊗ (k ⊗ u ⊕ h ⊗ c) ≗ k ⊗ (u ⊗ d) ⊕ h ⊗ (c ⊗ d)) tt k h u c d
    ∙ ap (λ z. k *ℤ z +ℤ h *ℤ (c *ℤ d)) same
    ∙ solve 5 (λ k h v c d. k ⊗ (v ⊗ c) ⊕ h ⊗ (c ⊗ d) ≗ c ⊗ (k ⊗ v ⊕ h ⊗ d)) tt k h v c d
    ∙ sym (ap (λ z. c *ℤ z) at_y)
    ∙ solve 3 (λ l y c. c ⊗ (l ⊗ y) ≗ l ⊗ (y ⊗ c)) tt l y c)

-- one is mixed of two others by the differences of the ways
mixed_coordinate : (l k h u c x v d y w b z : ℤ) → pos 0 <ℤ l → l *ℤ x ≡ k *ℤ u +ℤ h *ℤ c →
    l *ℤ y ≡ k *ℤ v +ℤ h *ℤ d → l *ℤ z ≡ k *ℤ w +ℤ h *ℤ b →
    z *ℤ ((v *ℤ b -ℤ w *ℤ d) *ℤ c +ℤ (w *ℤ c -ℤ u *ℤ b) *ℤ d) ≡
    ((v *ℤ b -ℤ w *ℤ d) *ℤ x +ℤ (w *ℤ c -ℤ u *ℤ b) *ℤ y) *ℤ b
mixed_coordinate l k h u c x v d y w b z positive at_x at_y at_z =
    let s = v *ℤ b -ℤ w *ℤ d in
    let t = w *ℤ c -ℤ u *ℤ b in
    eq_of_mul-eq l (z *ℤ (s *ℤ c +ℤ t *ℤ d)) ((s *ℤ x +ℤ t *ℤ y) *ℤ b) positive
    (solve 3 (λ l z n. l ⊗ (z ⊗ n) ≗ n ⊗ (l ⊗ z)) tt l z (s *ℤ c +ℤ t *ℤ d)
    ∙ ap (λ r. (s *ℤ c +ℤ t *ℤ d) *ℤ r) at_z
    ∙ solve 8
    (λ k h u c v d w b. ((v ⊗ b ⊖ w ⊗ d) ⊗ c ⊕ (w ⊗ c ⊖ u ⊗ b) ⊗ d) ⊗ (k ⊗ w ⊕ h ⊗ b) ≗
    b ⊗ ((v ⊗ b ⊖ w ⊗ d) ⊗ (k ⊗ u ⊕ h ⊗ c) ⊕ (w ⊗ c ⊖ u ⊗ b) ⊗ (k ⊗ v ⊕ h ⊗ d)))
    tt k h u c v d w b
    ∙ sym (ap₂ (λ q r. b *ℤ (s *ℤ q +ℤ t *ℤ r)) at_x at_y)
    ∙ solve 6 (λ l s t x y b. b ⊗ (s ⊗ (l ⊗ x) ⊕ t ⊗ (l ⊗ y)) ≗ l ⊗ ((s ⊗ x ⊕ t ⊗ y) ⊗ b)) tt l s t x y b)

-- ---- along an edge

module _ (e : Edge) (before : IsBefore e.a e.b) where
  -- how far the line of e is from the origin, times the length of e
  abbrev off : ℤ
  off = (e.b.x -ℤ e.a.x) *ℤ e.a.y -ℤ (e.b.y -ℤ e.a.y) *ℤ e.a.x

  -- x follows from the way
  x_by_way : (p : PlanePoint) → side e p ≡ pos 0 →
      length_squared e *ℤ p.x ≡ (e.b.x -ℤ e.a.x) *ℤ way e p +ℤ neg_ℤ ((e.b.y -ℤ e.a.y) *ℤ off) *ℤ p.d
  x_by_way p on =
      let identity = solve 7
      (λ ax ay bx by x y d. ((bx ⊖ ax) ⊗ (bx ⊖ ax) ⊕ (by ⊖ ay) ⊗ (by ⊖ ay)) ⊗ x ≗
      (bx ⊖ ax) ⊗ ((bx ⊖ ax) ⊗ x ⊕ (by ⊖ ay) ⊗ y) ⊕ ⊝ ((by ⊖ ay) ⊗ ((bx ⊖ ax) ⊗ ay ⊖ (by ⊖ ay) ⊗ ax)) ⊗ d ⊖
      (by ⊖ ay) ⊗ sideE ax ay bx by x y d)
      tt e.a.x e.a.y e.b.x e.b.y p.x p.y p.d in
      let none = mul-zero (e.b.y -ℤ e.a.y) (side e p) on in
      omega linear

  -- and so does y
  y_by_way : (p : PlanePoint) → side e p ≡ pos 0 →
      length_squared e *ℤ p.y ≡ (e.b.y -ℤ e.a.y) *ℤ way e p +ℤ ((e.b.x -ℤ e.a.x) *ℤ off) *ℤ p.d
  y_by_way p on =
      let identity = solve 7
      (λ ax ay bx by x y d. ((bx ⊖ ax) ⊗ (bx ⊖ ax) ⊕ (by ⊖ ay) ⊗ (by ⊖ ay)) ⊗ y ≗
      (by ⊖ ay) ⊗ ((bx ⊖ ax) ⊗ x ⊕ (by ⊖ ay) ⊗ y) ⊕ ((bx ⊖ ax) ⊗ ((bx ⊖ ax) ⊗ ay ⊖ (by ⊖ ay) ⊗ ax)) ⊗ d ⊕
      (bx ⊖ ax) ⊗ sideE ax ay bx by x y d)
      tt e.a.x e.a.y e.b.x e.b.y p.x p.y p.d in
      let none = mul-zero (e.b.x -ℤ e.a.x) (side e p) on in
      omega linear

  -- points of the line equally far along are at one place
  pub same_place_of_same_way : (p q : PlanePoint) → side e p ≡ pos 0 → side e q ≡ pos 0 →
      way e p *ℤ q.d ≡ way e q *ℤ p.d → SamePlace p q
  same_place_of_same_way p q on_p on_q same = (
    same_coordinate (length_squared e) (e.b.x -ℤ e.a.x) (neg_ℤ ((e.b.y -ℤ e.a.y) *ℤ off)) (way e p) p.d p.x
        (way e q) q.d q.x (length-positive e before) (x_by_way p on_p) (x_by_way q on_q) same,
    same_coordinate (length_squared e) (e.b.y -ℤ e.a.y) ((e.b.x -ℤ e.a.x) *ℤ off) (way e p) p.d p.y
        (way e q) q.d q.y (length-positive e before) (y_by_way p on_p) (y_by_way q on_q) same,
  )

  module _ (p : PlanePoint) (on : IsOn e p) where
    -- the ends of e, weighed to p
    mean : MeanOfEnds e p
    mean = mean_of_ends e p before on

    -- how far p is along, as its mean
    way_of_mean : mean.both *ℤ (way e p *ℤ pos 1) ≡ (e.b.x -ℤ e.a.x) *ℤ (mean.of_a *ℤ e.a.x +ℤ mean.of_b *ℤ e.b.x) +ℤ
        (e.b.y -ℤ e.a.y) *ℤ (mean.of_a *ℤ e.a.y +ℤ mean.of_b *ℤ e.b.y)
    way_of_mean =
        solve 5 (λ n k h x y. n ⊗ ((k ⊗ x ⊕ h ⊗ y) ⊗ number (pos 1)) ≗ k ⊗ (n ⊗ x) ⊕ h ⊗ (n ⊗ y)) tt mean.both
        (e.b.x -ℤ e.a.x) (e.b.y -ℤ e.a.y) p.x p.y
        ∙ ap₂ (λ x y. (e.b.x -ℤ e.a.x) *ℤ x +ℤ (e.b.y -ℤ e.a.y) *ℤ y) mean.mean_x mean.mean_y

    -- a number over p's denominator, times the weights together
    weighed : (z : ℤ) → mean.both *ℤ (z *ℤ p.d) ≡ z *ℤ (mean.of_a +ℤ mean.of_b)
    weighed z = solve 3 (λ n z d. n ⊗ (z ⊗ d) ≗ z ⊗ (n ⊗ d)) tt mean.both z p.d ∙ ap (λ n. z *ℤ n) (sym mean.sum)

    -- a point of the edge is no less far along than its start
    pub start_first : (way e (in_plane e.a) *ℤ p.d) ≤ℤ (way e p *ℤ pos 1)
    start_first =
        let at_p = way_of_mean in
        let at_a = weighed (way e (in_plane e.a)) in
        let apart = solve 6
        (λ ax ay bx by s t. (bx ⊖ ax) ⊗ (s ⊗ ax ⊕ t ⊗ bx) ⊕ (by ⊖ ay) ⊗ (s ⊗ ay ⊕ t ⊗ by) ≗
        ((bx ⊖ ax) ⊗ ax ⊕ (by ⊖ ay) ⊗ ay) ⊗ (s ⊕ t) ⊕ t ⊗ ((bx ⊖ ax) ⊗ (bx ⊖ ax) ⊕ (by ⊖ ay) ⊗ (by ⊖ ay)))
        tt e.a.x e.a.y e.b.x e.b.y mean.of_a mean.of_b in
        let positive = length-positive e before in
        let nonneg = mul-nonneg mean.of_b (length_squared e) mean.b_nonneg (omega linear) in
        le_of_mul-le mean.both (way e (in_plane e.a) *ℤ p.d) (way e p *ℤ pos 1) mean.some (omega linear)

    -- and no further than its end
    pub end_last : (way e p *ℤ pos 1) ≤ℤ (way e (in_plane e.b) *ℤ p.d)
    end_last =
        let at_p = way_of_mean in
        let at_b = weighed (way e (in_plane e.b)) in
        let apart = solve 6
        (λ ax ay bx by s t. (bx ⊖ ax) ⊗ (s ⊗ ax ⊕ t ⊗ bx) ⊕ (by ⊖ ay) ⊗ (s ⊗ ay ⊕ t ⊗ by) ≗
        ((bx ⊖ ax) ⊗ bx ⊕ (by ⊖ ay) ⊗ by) ⊗ (s ⊕ t) ⊖ s ⊗ ((bx ⊖ ax) ⊗ (bx ⊖ ax) ⊕ (by ⊖ ay) ⊗ (by ⊖ ay)))
        tt e.a.x e.a.y e.b.x e.b.y mean.of_a mean.of_b in
        let positive = length-positive e before in
        let nonneg = mul-nonneg mean.of_a (length_squared e) mean.a_nonneg (omega linear) in
        le_of_mul-le mean.both (way e p *ℤ pos 1) (way e (in_plane e.b) *ℤ p.d) mean.some (omega linear)

  -- p is no further along than m, and q is further
  module _ (p q m : PlanePoint) (on_p : side e p ≡ pos 0) (on_q : side e q ≡ pos 0) (on_m : side e m ≡ pos 0)
      (from : (way e p *ℤ m.d) ≤ℤ (way e m *ℤ p.d)) (to : (way e m *ℤ q.d) <ℤ (way e q *ℤ m.d)) where
    -- how far q is further
    abbrev pub part_of_first : ℤ
    part_of_first = way e q *ℤ m.d -ℤ way e m *ℤ q.d

    -- and how far m is
    abbrev pub part_of_second : ℤ
    part_of_second = way e m *ℤ p.d -ℤ way e p *ℤ m.d

    -- one of the two is not 0
    pub some_part : pos 0 <ℤ (part_of_first *ℤ p.d +ℤ part_of_second *ℤ q.d)
    some_part =
        let first = mul-pos part_of_first p.d (omega linear) p.positive in
        let second = mul-nonneg part_of_second q.d (omega linear) (let positive = q.positive in omega linear) in
        omega linear

    -- m is the mixture of p and q by them
    pub mixed_between : SamePlace m (mixture part_of_first part_of_second p q some_part)
    mixed_between = (
      mixed_coordinate (length_squared e) (e.b.x -ℤ e.a.x) (neg_ℤ ((e.b.y -ℤ e.a.y) *ℤ off)) (way e p) p.d p.x
          (way e q) q.d q.x (way e m) m.d m.x (length-positive e before) (x_by_way p on_p) (x_by_way q on_q)
          (x_by_way m on_m),
      mixed_coordinate (length_squared e) (e.b.y -ℤ e.a.y) ((e.b.x -ℤ e.a.x) *ℤ off) (way e p) p.d p.y
          (way e q) q.d q.y (way e m) m.d m.y (length-positive e before) (y_by_way p on_p) (y_by_way q on_q)
          (y_by_way m on_m),
    )
