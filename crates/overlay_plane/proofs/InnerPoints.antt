-- The winding at a point of an edge: that below the edge where the point is no end of it, and that at the end
-- elsewhere.
use Rattle.std.proofs.Common.{◌≡◌, inl, inr, ⊎_elim, Bool, true, false, cond, ℤ, pos, neg_ℤ, ◌+ℤ◌, ◌-ℤ◌, ◌*ℤ◌, ◌<ℤ◌}
use Rattle.std.proofs.Common.{◌≤ℤ◌, int_lt, int_le, List, Contains, refl, ap, ap₂, ◌∙◌, arith}
use Rattle.std.proofs.lemmas.Bool.{and_parts, and_from}
use Rattle.std.proofs.lemmas.Int.{ints, by_lt_z}
use Rattle.std.proofs.lemmas.List.Elements.{All-contains}
use Rattle.overlay_geom.specs.Plane.{Point, PlanePoint, Edge, IsOn, IsAt, IsEnd, side, in_plane, midpoint, point_lt}
use Rattle.overlay_geom.specs.Plane.{edge_eq, is_strictly_below}
use Rattle.overlay_geom.specs.Edges.{CountedEdge, ends_of, winding_by, winding_below}
use Rattle.overlay_geom.specs.Settled.{MeetInEnds}
use Rattle.overlay_geom.proofs.AlongEdge.{sideE, over, place_of, order_of_on}
use Rattle.overlay_geom.proofs.Identities.{solve, number, ◌⊕◌, ◌⊗◌, ◌⊖◌, ⊝◌, ◌≗◌}
use Rattle.overlay_geom.proofs.Orders.{edge_eq-same}
use Rattle.overlay_geom.proofs.PointOrder.{IsUpTo}
use Rattle.overlay_geom.proofs.Signs.{linear, mul-pos, mul-le, mul-lt, le_of_mul-le, lt_of_mul-lt, pos_of_mul-pos}
use Rattle.overlay_geom.proofs.Signs.{zero_of_mul-zero, mul-zero}
use Rattle.overlay_plane.specs.Heights.{width, covers, Spans, IsInner}
use Rattle.overlay_plane.specs.Nodes.{IsBalancedArrangement}
use Rattle.overlay_plane.proofs.Crossing.{between_on_line}
use Rattle.overlay_plane.proofs.LineForms.{line_form_linear}
use Rattle.overlay_plane.proofs.Mixtures.{mixture, mixture_on}
use Rattle.overlay_plane.proofs.NodeStarts.{rises_upright}
use Rattle.overlay_plane.proofs.Sides.{one_winding_at_inner_points}
use Rattle.overlay_plane.proofs.Strip.{starts_first}
use Rattle.overlay_plane.proofs.Tests.{lt_from_test, test_from_lt, test_from_le, same_tests}
use Rattle.overlay_plane.proofs.Totals.{total-same}
use Rattle.overlay_plane.proofs.Under.{covers_from, covers_to, covers_wide}
use Rattle.overlay_plane.proofs.WholeOnEdges.{forward_from_test}

-- ---- at a whole point

-- edges strictly below a plane point at a whole point are strictly below the whole point
below_whole : (v : Point) (p : PlanePoint) → IsAt v p → (g : Edge) → is_strictly_below g p ≡ is_strictly_below g
    (in_plane v)
below_whole v p at g = same_tests (is_strictly_below g p) (is_strictly_below g (in_plane v)) forth back
  where
    level : side g p ≡ p.d *ℤ side g (in_plane v)
    level = ap₂ (λ x y. (g.b.x -ℤ g.a.x) *ℤ (y -ℤ g.a.y *ℤ p.d) -ℤ (g.b.y -ℤ g.a.y) *ℤ (x -ℤ g.a.x *ℤ p.d)) at.0 at.1
        ∙ solve 7 (λ ax ay bx by x y d. sideE ax ay bx by (x ⊗ d) (y ⊗ d) d ≗ d ⊗ sideE ax ay bx by x y
        (number (pos 1))) tt g.a.x g.a.y g.b.x g.b.y v.x v.y p.d

    turned : (z : ℤ) → z *ℤ p.d ≡ p.d *ℤ z
    turned z = solve 2 (λ z d. z ⊗ d ≗ d ⊗ z) tt z p.d

    once : (z : ℤ) → z *ℤ pos 1 ≡ z
    once z = omega (arith, ints)

    forth : is_strictly_below g p ≡ true → is_strictly_below g (in_plane v) ≡ true
    forth t =
        let parts = and_parts (covers g p.x p.d) (int_lt (pos 0) (side g p)) t in
        let from = covers_from g p.x p.d parts.0 in
        let to = covers_to g p.x p.d parts.0 in
        let high = lt_from_test (pos 0) (side g p) parts.1 in
        let is = level in
        let x = at.0 in
        let v_x = turned v.x in
        let a_x = turned g.a.x in
        let b_x = turned g.b.x in
        let a_1 = once g.a.x in
        let b_1 = once g.b.x in
        let low_x = le_of_mul-le p.d g.a.x v.x p.positive (omega linear) in
        let high_x = lt_of_mul-lt p.d v.x g.b.x p.positive (omega linear) in
        and_from (covers g v.x (pos 1)) (int_lt (pos 0) (side g (in_plane v)))
        (and_from (int_le (g.a.x *ℤ pos 1) v.x) (int_lt v.x (g.b.x *ℤ pos 1))
        (test_from_le (g.a.x *ℤ pos 1) v.x (omega linear)) (test_from_lt v.x (g.b.x *ℤ pos 1) (omega linear)))
        (test_from_lt (pos 0) (side g (in_plane v))
        (pos_of_mul-pos p.d (side g (in_plane v)) p.positive (omega linear)))

    back : is_strictly_below g (in_plane v) ≡ true → is_strictly_below g p ≡ true
    back t =
        let parts = and_parts (covers g v.x (pos 1)) (int_lt (pos 0) (side g (in_plane v))) t in
        let from = covers_from g v.x (pos 1) parts.0 in
        let to = covers_to g v.x (pos 1) parts.0 in
        let high = lt_from_test (pos 0) (side g (in_plane v)) parts.1 in
        let is = level in
        let x = at.0 in
        let v_x = turned v.x in
        let a_x = turned g.a.x in
        let b_x = turned g.b.x in
        let a_1 = once g.a.x in
        let b_1 = once g.b.x in
        let positive = p.positive in
        let low_x = mul-le p.d g.a.x v.x (omega linear) (omega linear) in
        let high_x = mul-lt p.d v.x g.b.x p.positive (omega linear) in
        let more = mul-pos p.d (side g (in_plane v)) p.positive high in
        and_from (covers g p.x p.d) (int_lt (pos 0) (side g p))
        (and_from (int_le (g.a.x *ℤ p.d) p.x) (int_lt p.x (g.b.x *ℤ p.d))
        (test_from_le (g.a.x *ℤ p.d) p.x (omega linear)) (test_from_lt p.x (g.b.x *ℤ p.d) (omega linear)))
        (test_from_lt (pos 0) (side g p) (omega linear))

-- the winding there is that at the whole point
pub winding_at_whole : (count : CountedEdge → ℤ) (es : List CountedEdge) (v : Point) (p : PlanePoint) → IsAt v p →
    winding_by count es p ≡ winding_by count es (in_plane v)
winding_at_whole count es v p at = total-same (λ f. cond (is_strictly_below (ends_of f) p) (count f) (pos 0))
    (λ f. cond (is_strictly_below (ends_of f) (in_plane v)) (count f) (pos 0)) es
    (λ f c. ap (λ t. cond t (count f) (pos 0)) (below_whole v p at (ends_of f)))

-- ---- inside a vertical edge

-- a point of a vertical edge, and no end of it
record IsInside (e : Edge) (p : PlanePoint) : Type 0 where
  pub on : IsOn e p
  pub x : p.x ≡ e.a.x *ℤ p.d
  pub after : (e.a.y *ℤ p.d) <ℤ p.y
  pub before : p.y <ℤ (e.b.y *ℤ p.d)

module _ (e f : Edge) (meet : MeetInEnds e f) (p q : PlanePoint) (at_p : IsInside e p) (at_q : IsInside e q) where
  turned : (z d : ℤ) → z *ℤ d ≡ d *ℤ z
  turned z d = solve 2 (λ z d. z ⊗ d ≗ d ⊗ z) tt z d

  -- an edge covers both or neither
  covers_both : covers f p.x p.d ≡ true → covers f q.x q.d ≡ true
  covers_both covered =
      let from = covers_from f p.x p.d covered in
      let to = covers_to f p.x p.d covered in
      let x_p = at_p.x in
      let x_q = at_q.x in
      let e_p = turned e.a.x p.d in
      let e_q = turned e.a.x q.d in
      let a_p = turned f.a.x p.d in
      let a_q = turned f.a.x q.d in
      let b_p = turned f.b.x p.d in
      let b_q = turned f.b.x q.d in
      let positive = q.positive in
      let low = mul-le q.d f.a.x e.a.x (omega linear) (le_of_mul-le p.d f.a.x e.a.x p.positive (omega linear)) in
      let high = mul-lt q.d e.a.x f.b.x q.positive (lt_of_mul-lt p.d e.a.x f.b.x p.positive (omega linear)) in
      and_from (int_le (f.a.x *ℤ q.d) q.x) (int_lt q.x (f.b.x *ℤ q.d)) (test_from_le (f.a.x *ℤ q.d) q.x (omega linear))
      (test_from_lt q.x (f.b.x *ℤ q.d) (omega linear))

  -- the edge does not pass between them
  not_between : covers f p.x p.d ≡ true → pos 0 <ℤ side f p → side f q ≤ℤ pos 0 → ⊥
  not_between covered high low = ⊎_elim at_start at_end (meet m (on_e, on_f)).0
    where
      s : ℤ
      s = neg_ℤ (side f q)

      t : ℤ
      t = side f p

      ps : pos 0 ≤ℤ s
      ps = omega linear

      some : pos 0 <ℤ (s *ℤ p.d +ℤ t *ℤ q.d)
      some =
          let more = mul-pos t q.d high q.positive in
          let d = p.positive in
          let less = mul-le s (pos 0) p.d ps (omega linear) in
          let none = mul-zero s (pos 0) refl in
          omega linear

      m : PlanePoint
      m = mixture s t p q some

      on_e : IsOn e m
      on_e = mixture_on e s t p q some ps (omega linear) at_p.on at_q.on

      level : side f m ≡ pos 0
      level = line_form_linear f s p.x p.y p.d t q.x q.y q.d ∙ solve 2 (λ u v. ⊝ v ⊗ u ⊕ u ⊗ v ≗ number (pos 0)) tt
          (side f p) (side f q)

      wide : pos 0 <ℤ width f
      wide = covers_wide f p.x p.d p.positive covered

      m_x : m.x ≡ e.a.x *ℤ m.d
      m_x = ap₂ (λ u v. s *ℤ u +ℤ t *ℤ v) at_p.x at_q.x
          ∙ solve 5 (λ s t a d c. s ⊗ (a ⊗ d) ⊕ t ⊗ (a ⊗ c) ≗ a ⊗ (s ⊗ d ⊕ t ⊗ c)) tt s t e.a.x p.d q.d

      spans : Spans f m.x m.d
      spans =
          let x = m_x in
          let x_p = at_p.x in
          let from = covers_from f p.x p.d covered in
          let to = covers_to f p.x p.d covered in
          let positive = some in
          let e_m = turned e.a.x m.d in
          let a_m = turned f.a.x m.d in
          let b_m = turned f.b.x m.d in
          let e_p = turned e.a.x p.d in
          let a_p = turned f.a.x p.d in
          let b_p = turned f.b.x p.d in
          let low_m = mul-le m.d f.a.x e.a.x (omega linear) (le_of_mul-le p.d f.a.x e.a.x p.positive (omega linear)) in
          let high_m = mul-lt m.d e.a.x f.b.x some (lt_of_mul-lt p.d e.a.x f.b.x p.positive (omega linear)) in
          record { from = omega linear; to = omega linear }

      on_f : IsOn f m
      on_f = record {
        on_line = level;
        in_x = inl (spans.from, spans.to);
        in_y = between_on_line f m.x m.y m.d wide
            level spans;
      }

      at_start : IsAt e.a m → ⊥
      at_start at =
          let y = at.1 in
          let less_p = mul-le s (e.a.y *ℤ p.d) p.y ps (let a = at_p.after in omega linear) in
          let less_q = mul-lt t (e.a.y *ℤ q.d) q.y high at_q.after in
          let sum = solve 5 (λ s t a d c. s ⊗ (a ⊗ d) ⊕ t ⊗ (a ⊗ c) ≗ a ⊗ (s ⊗ d ⊕ t ⊗ c)) tt s t e.a.y p.d q.d in
          omega linear

      at_end : IsAt e.b m → ⊥
      at_end at =
          let y = at.1 in
          let less_p = mul-le s p.y (e.b.y *ℤ p.d) ps (let b = at_p.before in omega linear) in
          let less_q = mul-lt t q.y (e.b.y *ℤ q.d) high at_q.before in
          let sum = solve 5 (λ s t a d c. s ⊗ (a ⊗ d) ⊕ t ⊗ (a ⊗ c) ≗ a ⊗ (s ⊗ d ⊕ t ⊗ c)) tt s t e.b.y p.d q.d in
          omega linear

  -- the edge is strictly below both or neither
  below_both : is_strictly_below f p ≡ true → is_strictly_below f q ≡ true
  below_both below =
      let parts = and_parts (covers f p.x p.d) (int_lt (pos 0) (side f p)) below in
      and_from (covers f q.x q.d) (int_lt (pos 0) (side f q)) (covers_both parts.0)
      (by_lt_z (pos 0) (side f q) (λ high. test_from_lt (pos 0) (side f q) high)
      (λ low. absurd (not_between parts.0 (lt_from_test (pos 0) (side f p) parts.1) low)))

-- ---- inside any edge

module _ (e : Edge) (forward : point_lt e.a e.b ≡ true) (p : PlanePoint) (on : IsOn e p) (no_end : ¬ (IsEnd e p)) where
  -- it lies between the ends
  from_a : IsUpTo (over e.a p.d) (place_of p)
  from_a = (order_of_on e p (forward_from_test e forward) on).0

  to_b : IsUpTo (place_of p) (over e.b p.d)
  to_b = (order_of_on e p (forward_from_test e forward) on).1

  -- inside an edge that is not vertical
  inner : pos 0 <ℤ width e → IsInner e p.x p.d
  inner wide = record {
    after = by_lt_z (e.a.x *ℤ p.d) p.x (λ lt. lt) (λ le. absurd (no_end (inl (at_a le))));
    before = by_lt_z p.x (e.b.x *ℤ p.d) (λ lt. lt) (λ le. absurd (no_end (inr (at_b le))));
  }
    where
      at_a : p.x ≤ℤ (e.a.x *ℤ p.d) → IsAt e.a p
      at_a le =
          let from = from_a.x in
          let level = on.on_line in
          let none = mul-zero (e.b.y -ℤ e.a.y) (p.x -ℤ e.a.x *ℤ p.d) (omega linear) in
          let y = zero_of_mul-zero (width e) (p.y -ℤ e.a.y *ℤ p.d) wide (omega linear) in
          (omega linear, omega linear)

      at_b : (e.b.x *ℤ p.d) ≤ℤ p.x → IsAt e.b p
      at_b le =
          let to = to_b.x in
          let level = on.on_line in
          let none = mul-zero (e.b.y -ℤ e.a.y) (p.x -ℤ e.b.x *ℤ p.d) (omega linear) in
          let same = solve 7 (λ ax ay bx by x y d. sideE ax ay bx by x y d ≗ (bx ⊖ ax) ⊗ (y ⊖ by ⊗ d) ⊖ (by ⊖ ay) ⊗
          (x ⊖ bx ⊗ d)) tt e.a.x e.a.y e.b.x e.b.y p.x p.y p.d in
          let y = zero_of_mul-zero (width e) (p.y -ℤ e.b.y *ℤ p.d) wide (omega linear) in
          (omega linear, omega linear)

  -- inside a vertical one
  inside : width e ≤ℤ pos 0 → IsInside e p
  inside narrow = record {
    on = on;
    x = at_x;
    after = by_lt_z (e.a.y *ℤ p.d) p.y (λ lt. lt)
        (λ le. absurd (no_end (inl (at_x, let up = from_a.y (let x = at_x in omega linear) in omega linear))));
    before = by_lt_z p.y (e.b.y *ℤ p.d) (λ lt. lt)
        (λ le. absurd (no_end (inr (at_b_x, let up = to_b.y (let x = at_b_x in omega linear) in omega linear))));
  }
    where
      same_x : e.a.x ≡ e.b.x
      same_x = let first = starts_first e forward in omega linear

      both_x : e.a.x *ℤ p.d ≡ e.b.x *ℤ p.d
      both_x = ap (λ z. z *ℤ p.d) same_x

      at_x : p.x ≡ e.a.x *ℤ p.d
      at_x = let b = both_x in let from = from_a.x in let to = to_b.x in omega linear

      at_b_x : p.x ≡ e.b.x *ℤ p.d
      at_b_x = let b = both_x in let from = from_a.x in let to = to_b.x in omega linear

-- the midpoint of a vertical edge is inside
middle_inside : (e : Edge) → point_lt e.a e.b ≡ true → width e ≤ℤ pos 0 → IsInside e (midpoint e)
middle_inside e forward narrow = record {
  on = record {
    on_line = solve 4 (λ ax ay bx by. sideE ax ay bx by (ax ⊕ bx) (ay ⊕ by) (number (pos 2)) ≗ number (pos 0)) tt e.a.x
        e.a.y e.b.x e.b.y;
    in_x = inl (between e.a.x e.b.x (starts_first e forward));
    in_y = inl (between e.a.y e.b.y (let up = rises_upright e forward narrow in omega linear));
  };
  x = doubled_x e.a.x e.b.x (let first = starts_first e forward in omega linear);
  after = more e.a.y e.b.y (let up = rises_upright e forward narrow in omega linear);
  before = less e.a.y e.b.y (let up = rises_upright e forward narrow in omega linear);
}
  where
    between : (a b : ℤ) → a ≤ℤ b → ((a *ℤ pos 2) ≤ℤ (a +ℤ b)) × ((a +ℤ b) ≤ℤ (b *ℤ pos 2))
    between a b h = (omega (arith, ints), omega (arith, ints))

    doubled_x : (a b : ℤ) → a ≡ b → a +ℤ b ≡ a *ℤ pos 2
    doubled_x a b h = omega (arith, ints)

    more : (a b : ℤ) → a <ℤ b → (a *ℤ pos 2) <ℤ (a +ℤ b)
    more a b h = omega (arith, ints)

    less : (a b : ℤ) → a <ℤ b → (a +ℤ b) <ℤ (b *ℤ pos 2)
    less a b h = omega (arith, ints)

-- the winding at a point of an edge that is no end of it is the winding below the edge
pub winding_inside : (count : CountedEdge → ℤ) (es : List CountedEdge) → IsBalancedArrangement count es →
    (e : CountedEdge) → Contains es e →
    (p : PlanePoint) → IsOn (ends_of e) p → ¬ (IsEnd (ends_of e) p) → winding_by count es p ≡ winding_below count es e
winding_inside count es arranged e c p on no_end = by_lt_z (pos 0) (width (ends_of e))
    (λ wide. one_winding_at_inner_points es count arranged.planar.forward arranged.planar.settled arranged.balanced e c
    p on.on_line
    (inner (ends_of e) forward p on no_end wide))
    (λ narrow. total-same (λ f. cond (is_strictly_below (ends_of f) p) (count f) (pos 0))
    (λ f. cond (is_strictly_below (ends_of f) (midpoint (ends_of e))) (count f) (pos 0)) es
    (λ f d. ap (λ t. cond t (count f) (pos 0)) (one_test narrow f d)))
  where
    forward : point_lt e.a e.b ≡ true
    forward = All-contains (λ f. point_lt f.a f.b ≡ true) es e arranged.planar.forward c

    one_test : width (ends_of e) ≤ℤ pos 0 → (f : CountedEdge) → Contains es f →
        is_strictly_below (ends_of f) p ≡ is_strictly_below (ends_of f) (midpoint (ends_of e))
    one_test narrow f d = same_tests (is_strictly_below (ends_of f) p)
        (is_strictly_below (ends_of f) (midpoint (ends_of e)))
        (λ t. below_both (ends_of e) (ends_of f) (apart p t) p (midpoint (ends_of e)) here middle t)
        (λ t. below_both (ends_of e) (ends_of f) (apart (midpoint (ends_of e)) t) (midpoint (ends_of e)) p
        middle here t)
      where
        here : IsInside (ends_of e) p
        here = inside (ends_of e) forward p on no_end narrow

        middle : IsInside (ends_of e) (midpoint (ends_of e))
        middle = middle_inside (ends_of e) forward narrow

        apart : (q : PlanePoint) → is_strictly_below (ends_of f) q ≡ true → MeetInEnds (ends_of e) (ends_of f)
        apart q t = by (edge_eq (ends_of e) (ends_of f)) refl
          where
            by : (s : Bool) → edge_eq (ends_of e) (ends_of f) ≡ s → MeetInEnds (ends_of e) (ends_of f)
            by true same = absurd (
                let wide = covers_wide (ends_of f) q.x q.d q.positive
                (and_parts (covers (ends_of f) q.x q.d) (int_lt (pos 0) (side (ends_of f) q)) t).0 in
                let one = ap (λ (g : Edge). width g) (edge_eq-same (ends_of e) (ends_of f) same) in
                omega linear)
            by false other = arranged.planar.settled e f c d other
