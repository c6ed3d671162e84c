-- An edge that leads across another edge's line: points of that line lie on one side of it before the crossing, and on
-- the other side after it.
use Rattle.std.proofs.Common.{◌≡◌, inl, inr, ℤ, pos, ◌-ℤ◌, ◌*ℤ◌, neg_ℤ, ◌<ℤ◌, ◌≤ℤ◌, ◌∙◌}
use Rattle.std.proofs.lemmas.Bool.{false_from_ne_true}
use Rattle.std.proofs.lemmas.Int.{by_lt_z}
use Rattle.overlay_geom.specs.Plane.{PlanePoint, Edge, IsOn, SamePlace, side, cross_at}
use Rattle.overlay_geom.proofs.AlongEdge.{sideE}
use Rattle.overlay_geom.proofs.Cross.{crossE}
use Rattle.overlay_geom.proofs.Identities.{solve, number, ◌⊕◌, ◌⊗◌, ◌⊖◌, ⊝◌, ◌≗◌}
use Rattle.overlay_geom.proofs.PointOrder.{IsBefore}
use Rattle.overlay_geom.proofs.Signs.{linear, mul-pos, mul-neg, mul-nonneg, mul-nonpos, mul-zero, pos_of_mul-pos}
use Rattle.overlay_geom.proofs.Signs.{neg_of_mul-neg}
use Rattle.overlay_plane.specs.Rounds.{IsSmaller}
use Rattle.overlay_plane.proofs.CrossingPoints.{point_along, part_on}
use Rattle.overlay_plane.proofs.SmallerPoints.{Decides-is_smaller, same_place-from_tie}
use Rattle.overlay_plane.proofs.WholeOnEdges.{by_test}

-- ---- the order of two points of a line

-- two numbers of one sign, since positive multiples of them are equal
record HaveOneSign (g k : ℤ) : Type 0 where
  factor : ℤ
  other : ℤ
  positive : pos 0 <ℤ factor
  other_positive : pos 0 <ℤ other
  same : factor *ℤ g ≡ other *ℤ k

module _ (e f : Edge) (e_before : IsBefore e.a e.b) (u v : PlanePoint) (at_u : side e u ≡ pos 0)
    (at_v : side e v ≡ pos 0) (less : IsSmaller u v) where
  -- how far f leads to the right across the line, and how far left of it v lies beyond u
  abbrev fall : ℤ
  fall = cross_at e.a e.b f.a -ℤ cross_at e.a e.b f.b

  abbrev gain : ℤ
  gain = u.d *ℤ side f v -ℤ v.d *ℤ side f u

  -- the way from u to v, over both denominators
  abbrev in_x : ℤ
  in_x = v.x *ℤ u.d -ℤ u.x *ℤ v.d

  abbrev in_y : ℤ
  in_y = v.y *ℤ u.d -ℤ u.y *ℤ v.d

  along : (e.b.x -ℤ e.a.x) *ℤ in_y ≡ (e.b.y -ℤ e.a.y) *ℤ in_x
  along =
      let of_u = mul-zero v.d (side e u) at_u in
      let of_v = mul-zero u.d (side e v) at_v in
      let identity = solve 10 (λ ax ay bx by x y d z w c. (bx ⊖ ax) ⊗ (w ⊗ d ⊖ y ⊗ c) ≗
      (by ⊖ ay) ⊗ (z ⊗ d ⊖ x ⊗ c) ⊕ (d ⊗ sideE ax ay bx by z w c ⊖ c ⊗ sideE ax ay bx by x y d))
      tt e.a.x e.a.y e.b.x e.b.y u.x u.y u.d v.x v.y v.d in
      omega linear

  by_x : (e.b.x -ℤ e.a.x) *ℤ gain ≡ in_x *ℤ fall
  by_x =
      let of_u = mul-zero ((f.b.x -ℤ f.a.x) *ℤ v.d) (side e u) at_u in
      let of_v = mul-zero ((f.b.x -ℤ f.a.x) *ℤ u.d) (side e v) at_v in
      let identity = solve 14 (λ ax ay bx by cx cy dx dy x y d z w c.
      (bx ⊖ ax) ⊗ (d ⊗ sideE cx cy dx dy z w c ⊖ c ⊗ sideE cx cy dx dy x y d) ≗
      (z ⊗ d ⊖ x ⊗ c) ⊗ (crossE ax ay bx by cx cy ⊖ crossE ax ay bx by dx dy) ⊕
      (((dx ⊖ cx) ⊗ d) ⊗ sideE ax ay bx by z w c ⊖ ((dx ⊖ cx) ⊗ c) ⊗ sideE ax ay bx by x y d))
      tt e.a.x e.a.y e.b.x e.b.y f.a.x f.a.y f.b.x f.b.y u.x u.y u.d v.x v.y v.d in
      omega linear

  by_y : (e.b.y -ℤ e.a.y) *ℤ gain ≡ in_y *ℤ fall
  by_y =
      let of_u = mul-zero ((f.b.y -ℤ f.a.y) *ℤ v.d) (side e u) at_u in
      let of_v = mul-zero ((f.b.y -ℤ f.a.y) *ℤ u.d) (side e v) at_v in
      let identity = solve 14 (λ ax ay bx by cx cy dx dy x y d z w c.
      (by ⊖ ay) ⊗ (d ⊗ sideE cx cy dx dy z w c ⊖ c ⊗ sideE cx cy dx dy x y d) ≗
      (w ⊗ d ⊖ y ⊗ c) ⊗ (crossE ax ay bx by cx cy ⊖ crossE ax ay bx by dx dy) ⊕
      (((dy ⊖ cy) ⊗ d) ⊗ sideE ax ay bx by z w c ⊖ ((dy ⊖ cy) ⊗ c) ⊗ sideE ax ay bx by x y d))
      tt e.a.x e.a.y e.b.x e.b.y f.a.x f.a.y f.b.x f.b.y u.x u.y u.d v.x v.y v.d in
      omega linear

  one_sign : HaveOneSign gain fall
  one_sign = by_lt_z e.a.x e.b.x (λ wide. record {
    factor = e.b.x -ℤ e.a.x;
    other = in_x;
    positive = omega linear;
    other_positive = wide_way wide less;
    same = by_x;
  }) (λ upright. let up = e_before.y upright in record {
    factor = e.b.y -ℤ e.a.y;
    other = in_y;
    positive = omega linear;
    other_positive = upright_way upright up less;
    same = by_y;
  })
    where
      wide_way : e.a.x <ℤ e.b.x → IsSmaller u v → pos 0 <ℤ in_x
      wide_way wide (inl lt) = omega linear
      wide_way wide (inr (same, lt)) = absurd (
          let none = mul-zero (e.b.y -ℤ e.a.y) in_x (omega linear) in
          let some = mul-pos (e.b.x -ℤ e.a.x) in_y (omega linear) (omega linear) in
          let is = along in omega linear)

      upright_way : e.b.x ≤ℤ e.a.x → e.a.y <ℤ e.b.y → IsSmaller u v → pos 0 <ℤ in_y
      upright_way upright up (inl lt) = absurd (
          let x = e_before.x in
          let turned = solve 2 (λ w y. w ⊗ y ≗ y ⊗ w) tt (e.b.x -ℤ e.a.x) in_y in
          let none = mul-zero in_y (e.b.x -ℤ e.a.x) (omega linear) in
          let some = mul-pos (e.b.y -ℤ e.a.y) in_x (omega linear) (omega linear) in
          let is = along in omega linear)
      upright_way upright up (inr (same, lt)) = omega linear

  -- f leads down across the line
  module _ (down : pos 0 <ℤ fall) where
    gains : pos 0 <ℤ gain
    gains =
        let is = one_sign in
        let positive = mul-pos is.other fall is.other_positive down in
        let same = is.same in
        pos_of_mul-pos is.factor gain is.positive (omega linear)

    pub left_after : pos 0 ≤ℤ side f u → pos 0 <ℤ side f v
    left_after left =
        let more = gains in
        let first = mul-nonneg v.d (side f u) (let d = v.positive in omega linear) left in
        pos_of_mul-pos u.d (side f v) u.positive (omega linear)

    pub right_before : side f v ≤ℤ pos 0 → side f u <ℤ pos 0
    right_before right =
        let more = gains in
        let second = mul-nonpos u.d (side f v) (let d = u.positive in omega linear) right in
        neg_of_mul-neg v.d (side f u) v.positive (omega linear)

  -- f leads up across the line
  module _ (up : fall <ℤ pos 0) where
    loses : gain <ℤ pos 0
    loses =
        let is = one_sign in
        let negative = mul-neg is.other fall is.other_positive up in
        let same = is.same in
        neg_of_mul-neg is.factor gain is.positive (omega linear)

    pub right_after : side f u ≤ℤ pos 0 → side f v <ℤ pos 0
    right_after right =
        let less_then = loses in
        let first = mul-nonpos v.d (side f u) (let d = v.positive in omega linear) right in
        neg_of_mul-neg u.d (side f v) u.positive (omega linear)

    pub left_before : pos 0 ≤ℤ side f v → pos 0 <ℤ side f u
    left_before left =
        let less_then = loses in
        let second = mul-nonneg u.d (side f v) (let d = u.positive in omega linear) left in
        pos_of_mul-pos v.d (side f u) v.positive (omega linear)

-- ---- the crossing

-- a point of f is on the line of e
pub record CrossesAt (e f : Edge) : Type 0 where
  pub point : PlanePoint
  pub on : IsOn f point
  pub level : side e point ≡ pos 0

module _ (e f : Edge) where
  abbrev at_a : ℤ
  at_a = cross_at e.a e.b f.a

  abbrev at_b : ℤ
  at_b = cross_at e.a e.b f.b

  level_along : (t d : ℤ) (positive : pos 0 <ℤ d) →
      side e (point_along f t d positive) ≡ d *ℤ at_a -ℤ t *ℤ (at_a -ℤ at_b)
  level_along t d positive = solve 10 (λ ax ay bx by cx cy dx dy t d.
      sideE ax ay bx by (cx ⊗ d ⊕ (dx ⊖ cx) ⊗ t) (cy ⊗ d ⊕ (dy ⊖ cy) ⊗ t) d ≗
      d ⊗ crossE ax ay bx by cx cy ⊖ t ⊗ (crossE ax ay bx by cx cy ⊖ crossE ax ay bx by dx dy))
      tt e.a.x e.a.y e.b.x e.b.y f.a.x f.a.y f.b.x f.b.y t d

  pub crosses_down : pos 0 ≤ℤ at_a → at_b <ℤ pos 0 → CrossesAt e f
  crosses_down left right = record {
    point = point_along f at_a (at_a -ℤ at_b) (omega linear);
    on = part_on f at_a (at_a -ℤ at_b) (omega linear) left (omega linear);
    level = level_along at_a (at_a -ℤ at_b) (omega linear)
        ∙ solve 2 (λ a b. (a ⊖ b) ⊗ a ⊖ a ⊗ (a ⊖ b) ≗ number (pos 0)) tt at_a at_b;
  }

  pub crosses_up : at_a <ℤ pos 0 → pos 0 ≤ℤ at_b → CrossesAt e f
  crosses_up right left = record {
    point = point_along f (neg_ℤ at_a) (at_b -ℤ at_a) (omega linear);
    on = part_on f (neg_ℤ at_a) (at_b -ℤ at_a) (omega linear) (omega linear) (omega linear);
    level = level_along (neg_ℤ at_a) (at_b -ℤ at_a) (omega linear)
        ∙ solve 2 (λ a b. (b ⊖ a) ⊗ a ⊖ (⊝ a) ⊗ (a ⊖ b) ≗ number (pos 0)) tt at_a at_b;
  }

-- ---- by order

-- of two points of the plane one is smaller, or they are at one place
pub by_smaller : {P : Type 0} (p q : PlanePoint) → (IsSmaller p q → P) → (SamePlace p q → P) → (IsSmaller q p → P) → P
by_smaller p q f same g = by_test _ (Decides-is_smaller p q) f
    (λ first. by_test _ (Decides-is_smaller q p) g (λ second. same (same_place-from_tie p q
    (false_from_ne_true _ (λ t. first ((Decides-is_smaller p q).0 t)))
    (false_from_ne_true _ (λ t. second ((Decides-is_smaller q p).0 t))))))
