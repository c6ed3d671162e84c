-- Points near a point p: an edge that does not have p has none of them. It is strictly below those that are not left of
-- p exactly where it is below p.
use Rattle.std.proofs.Common.{◌≡◌, ◌⊎◌, inl, inr, ⊎_elim, Bool, true, ◌&&◌, ◌||◌, ℕ, ℤ, pos, negsuc, nat_abs}
use Rattle.std.proofs.Common.{neg_ℤ, ◌+ℤ◌, ◌-ℤ◌, ◌*ℤ◌, ◌<ℤ◌, ◌≤ℤ◌, int_lt, int_le, arith}
use Rattle.std.specs.Bool.{Decides}
use Rattle.std.proofs.lemmas.Bool.{and_parts, and_from}
use Rattle.std.proofs.lemmas.Bool.Decides.{Decides-int_eq, Decides-and, Decides-or}
use Rattle.std.proofs.lemmas.Int.{ints, by_lt_z}
use Rattle.overlay_geom.specs.Plane.{PlanePoint, Edge, IsOn, IsBetween, side, is_strictly_below}
use Rattle.overlay_geom.proofs.AlongEdge.{sideE}
use Rattle.overlay_geom.proofs.Identities.{solve, number, ◌⊕◌, ◌⊗◌, ◌⊖◌, ⊝◌, ◌≗◌}
use Rattle.overlay_geom.proofs.Signs.{linear, by_sign, mul-pos, mul-le, mul-lt, mul-nonneg, lt_of_mul-lt}
use Rattle.overlay_geom.proofs.Signs.{pos_of_mul-pos, neg_of_mul-neg}
use Rattle.overlay_plane.specs.Heights.{width, covers, Spans}
use Rattle.overlay_plane.proofs.Crossing.{between_on_line}
use Rattle.overlay_plane.proofs.Tests.{lt_from_test, le_from_test, test_from_lt, test_from_le, same_tests}
use Rattle.overlay_plane.proofs.Tests.{Decides-int_le}
use Rattle.overlay_plane.proofs.Under.{covers_from, covers_to, covers_wide}
use Rattle.overlay_plane.proofs.WholeOnEdges.{by_test}
use Rattle.overlay_relate.specs.Closures.{AreWithinPart}

-- ---- a point is on an edge or not

Decides-between : (z u v : ℤ) → Decides ((int_le u z && int_le z v) || (int_le v z && int_le z u)) (IsBetween z u v)
Decides-between z u v = Decides-or _ _ (Decides-and _ _ (Decides-int_le u z) (Decides-int_le z v))
    (Decides-and _ _ (Decides-int_le v z) (Decides-int_le z u))

pub on_or_off : (e : Edge) (p : PlanePoint) → IsOn e p ⊎ (¬ (IsOn e p))
on_or_off e p = by_test _ (Decides-and _ _ (Decides-int_eq (side e p) (pos 0))
    (Decides-and _ _ (Decides-between p.x (e.a.x *ℤ p.d) (e.b.x *ℤ p.d))
    (Decides-between p.y (e.a.y *ℤ p.d) (e.b.y *ℤ p.d))))
    (λ is. inl (record { on_line = is.0; in_x = is.1.0; in_y = is.1.1 }))
    (λ none. inr (λ on. none (on.on_line, (on.in_x, on.in_y))))

-- ---- numbers near others

-- a whole number is no further from 0 than its size
pub within_size : (z : ℤ) → (neg_ℤ (pos (nat_abs z)) ≤ℤ z) × (z ≤ℤ pos (nat_abs z))
within_size (pos n) = (omega (arith, ints), omega (arith, ints))
within_size (negsuc n) = (omega (arith, ints), omega (arith, ints))

-- the product of numbers at most a and m away from 0 is at most a m away
times_bounded : (a w m z : ℤ) → neg_ℤ a ≤ℤ w → w ≤ℤ a → neg_ℤ m ≤ℤ z → z ≤ℤ m →
    (neg_ℤ (a *ℤ m) ≤ℤ (w *ℤ z)) × ((w *ℤ z) ≤ℤ (a *ℤ m))
times_bounded a w m z low high from to =
    let one = mul-nonneg (a -ℤ w) (m +ℤ z) (omega linear) (omega linear) in
    let two = mul-nonneg (a +ℤ w) (m -ℤ z) (omega linear) (omega linear) in
    let three = mul-nonneg (a -ℤ w) (m -ℤ z) (omega linear) (omega linear) in
    let four = mul-nonneg (a +ℤ w) (m +ℤ z) (omega linear) (omega linear) in
    let less = solve 4 (λ a w m z. (a ⊖ w) ⊗ (m ⊕ z) ⊕ (a ⊕ w) ⊗ (m ⊖ z) ≗ (a ⊗ m ⊖ w ⊗ z) ⊕ (a ⊗ m ⊖ w ⊗ z)) tt
    a w m z in
    let more = solve 4 (λ a w m z. (a ⊖ w) ⊗ (m ⊖ z) ⊕ (a ⊕ w) ⊗ (m ⊕ z) ≗ (a ⊗ m ⊕ w ⊗ z) ⊕ (a ⊗ m ⊕ w ⊗ z)) tt
    a w m z in
    (omega linear, omega linear)

-- where x / d is after a whole number, u / c is too, if it is less than 1 / d from x / d
near_after : (k z x d u c : ℤ) → pos 0 <ℤ d → pos 0 <ℤ c → d <ℤ k → (k *ℤ (x *ℤ c -ℤ u *ℤ d)) ≤ℤ (c *ℤ d) →
    (z *ℤ d) <ℤ x → (z *ℤ c) <ℤ u
near_after k z x d u c d_pos c_pos many near after =
    let more = mul-lt c d k c_pos many in
    let turned = solve 2 (λ c k. c ⊗ k ≗ k ⊗ c) tt c k in
    let small = lt_of_mul-lt k (x *ℤ c -ℤ u *ℤ d) c (omega linear) (omega linear) in
    let one = mul-le c (pos 1) (x -ℤ z *ℤ d) (omega linear) (omega linear) in
    let once = solve 1 (λ c. c ⊗ number (pos 1) ≗ c) tt c in
    let is = solve 5 (λ z x d u c. d ⊗ (u ⊖ z ⊗ c) ≗ c ⊗ (x ⊖ z ⊗ d) ⊖ (x ⊗ c ⊖ u ⊗ d)) tt z x d u c in
    let rest = pos_of_mul-pos d (u -ℤ z *ℤ c) d_pos (omega linear) in
    omega linear

near_before : (k z x d u c : ℤ) → pos 0 <ℤ d → pos 0 <ℤ c → d <ℤ k → (k *ℤ (u *ℤ d -ℤ x *ℤ c)) ≤ℤ (c *ℤ d) →
    x <ℤ (z *ℤ d) → u <ℤ (z *ℤ c)
near_before k z x d u c d_pos c_pos many near before =
    let more = mul-lt c d k c_pos many in
    let turned = solve 2 (λ c k. c ⊗ k ≗ k ⊗ c) tt c k in
    let small = lt_of_mul-lt k (u *ℤ d -ℤ x *ℤ c) c (omega linear) (omega linear) in
    let one = mul-le c (pos 1) (z *ℤ d -ℤ x) (omega linear) (omega linear) in
    let once = solve 1 (λ c. c ⊗ number (pos 1) ≗ c) tt c in
    let is = solve 5 (λ z x d u c. d ⊗ (z ⊗ c ⊖ u) ≗ c ⊗ (z ⊗ d ⊖ x) ⊖ (u ⊗ d ⊖ x ⊗ c)) tt z x d u c in
    let rest = pos_of_mul-pos d (z *ℤ c -ℤ u) d_pos (omega linear) in
    omega linear

-- a short way turns little from a line whose steps are at most a and b
turns_little : (k a b w h u v d c : ℤ) → pos 0 <ℤ d → pos 0 <ℤ c → pos 0 ≤ℤ a → pos 0 ≤ℤ b →
    ((a +ℤ b +ℤ pos 1) *ℤ d) <ℤ k → neg_ℤ a ≤ℤ w → w ≤ℤ a → neg_ℤ b ≤ℤ h → h ≤ℤ b →
    neg_ℤ (c *ℤ d) ≤ℤ (k *ℤ u) → (k *ℤ u) ≤ℤ (c *ℤ d) → neg_ℤ (c *ℤ d) ≤ℤ (k *ℤ v) → (k *ℤ v) ≤ℤ (c *ℤ d) →
    (neg_ℤ c <ℤ (w *ℤ v -ℤ h *ℤ u)) × ((w *ℤ v -ℤ h *ℤ u) <ℤ c)
turns_little k a b w h u v d c d_pos c_pos a_nonneg b_nonneg many low_w high_w low_h high_h low_u high_u low_v high_v =
    let by_w = times_bounded a w (c *ℤ d) (k *ℤ v) low_w high_w low_v high_v in
    let by_h = times_bounded b h (c *ℤ d) (k *ℤ u) low_h high_h low_u high_u in
    let w_low = by_w.0 in
    let w_high = by_w.1 in
    let h_low = by_h.0 in
    let h_high = by_h.1 in
    let is = solve 5 (λ k w h u v. k ⊗ (w ⊗ v ⊖ h ⊗ u) ≗ w ⊗ (k ⊗ v) ⊖ h ⊗ (k ⊗ u)) tt k w h u v in
    let more = mul-lt c ((a +ℤ b +ℤ pos 1) *ℤ d) k c_pos many in
    let parts = solve 4 (λ a b c d. c ⊗ ((a ⊕ b ⊕ number (pos 1)) ⊗ d) ≗ a ⊗ (c ⊗ d) ⊕ b ⊗ (c ⊗ d) ⊕ c ⊗ d) tt
    a b c d in
    let some = mul-pos c d c_pos d_pos in
    let turned = solve 2 (λ c k. c ⊗ k ≗ k ⊗ c) tt c k in
    let negated = solve 2 (λ c k. k ⊗ ⊝ c ≗ ⊝ (k ⊗ c)) tt c k in
    let sizes = mul-nonneg (a +ℤ b +ℤ pos 1) d (omega linear) (omega linear) in
    let positive : pos 0 <ℤ k = omega linear in (
      lt_of_mul-lt k (neg_ℤ c) (w *ℤ v -ℤ h *ℤ u) positive (omega linear),
      lt_of_mul-lt k (w *ℤ v -ℤ h *ℤ u) c positive (omega linear),
    )

-- ---- near a point

-- by how much an edge leads on in x and in y, and 1
abbrev pub size : Edge → ℤ
size f = pos (nat_abs (width f)) +ℤ pos (nat_abs (f.b.y -ℤ f.a.y)) +ℤ pos 1

-- the edge goes on to the left of p, and is below p
abbrev pub is_left_below : Edge → PlanePoint → Bool
is_left_below f p = (int_lt (f.a.x *ℤ p.d) p.x && int_le p.x (f.b.x *ℤ p.d)) && int_lt (pos 0) (side f p)

module _ (n : ℕ) (p q : PlanePoint) (near : AreWithinPart n q p) (f : Edge) (fits : (size f *ℤ p.d) <ℤ pos n) where
  -- how far q is to the right of p and above, over both denominators
  abbrev across : ℤ
  across = q.x *ℤ p.d -ℤ p.x *ℤ q.d

  abbrev upward : ℤ
  upward = q.y *ℤ p.d -ℤ p.y *ℤ q.d

  many : p.d <ℤ pos n
  many =
      let d = p.positive in
      let one = mul-le p.d (pos 1) (size f) (omega linear)
      (at_least_one (nat_abs (width f)) (nat_abs (f.b.y -ℤ f.a.y))) in
      let once = solve 1 (λ d. d ⊗ number (pos 1) ≗ d) tt p.d in
      let turned = solve 2 (λ s d. d ⊗ s ≗ s ⊗ d) tt (size f) p.d in
      let more = fits in
      omega linear
    where
      at_least_one : (m k : ℕ) → pos 1 ≤ℤ (pos m +ℤ pos k +ℤ pos 1)
      at_least_one m k = omega (arith, ints)

  -- whole numbers are on the same side of q.x as of p.x, or of q.y as of p.y
  pub after_x : (z : ℤ) → (z *ℤ p.d) <ℤ p.x → (z *ℤ q.d) <ℤ q.x
  after_x z = near_after (pos n) z p.x p.d q.x q.d p.positive q.positive many near.left

  pub before_x : (z : ℤ) → p.x <ℤ (z *ℤ p.d) → q.x <ℤ (z *ℤ q.d)
  before_x z = near_before (pos n) z p.x p.d q.x q.d p.positive q.positive many near.right

  from_x : (z : ℤ) → (z *ℤ q.d) ≤ℤ q.x → (z *ℤ p.d) ≤ℤ p.x
  from_x z le = by_lt_z p.x (z *ℤ p.d) (λ less. absurd (let lt = before_x z less in omega linear)) (λ ge. ge)

  to_x : (z : ℤ) → q.x ≤ℤ (z *ℤ q.d) → p.x ≤ℤ (z *ℤ p.d)
  to_x z le = by_lt_z (z *ℤ p.d) p.x (λ less. absurd (let lt = after_x z less in omega linear)) (λ ge. ge)

  from_y : (z : ℤ) → (z *ℤ q.d) ≤ℤ q.y → (z *ℤ p.d) ≤ℤ p.y
  from_y z le = by_lt_z p.y (z *ℤ p.d) (λ less. absurd (let lt = near_before (pos n) z p.y p.d q.y q.d p.positive
      q.positive many near.up less in omega linear)) (λ ge. ge)

  to_y : (z : ℤ) → q.y ≤ℤ (z *ℤ q.d) → p.y ≤ℤ (z *ℤ p.d)
  to_y z le = by_lt_z (z *ℤ p.d) p.y (λ less. absurd (let lt = near_after (pos n) z p.y p.d q.y q.d p.positive
      q.positive many near.down less in omega linear)) (λ ge. ge)

  -- so is the line of the edge
  side_there : side f q *ℤ p.d ≡ side f p *ℤ q.d +ℤ (width f *ℤ upward -ℤ (f.b.y -ℤ f.a.y) *ℤ across)
  side_there = solve 10 (λ ax ay bx by x y d u v c. sideE ax ay bx by u v c ⊗ d ≗
      sideE ax ay bx by x y d ⊗ c ⊕ ((bx ⊖ ax) ⊗ (v ⊗ d ⊖ y ⊗ c) ⊖ (by ⊖ ay) ⊗ (u ⊗ d ⊖ x ⊗ c))) tt
      f.a.x f.a.y f.b.x f.b.y p.x p.y p.d q.x q.y q.d

  little : (neg_ℤ q.d <ℤ (width f *ℤ upward -ℤ (f.b.y -ℤ f.a.y) *ℤ across))
      × ((width f *ℤ upward -ℤ (f.b.y -ℤ f.a.y) *ℤ across) <ℤ q.d)
  little = turns_little (pos n) (pos (nat_abs (width f))) (pos (nat_abs (f.b.y -ℤ f.a.y))) (width f)
      (f.b.y -ℤ f.a.y) across upward p.d q.d p.positive q.positive (nonneg (nat_abs (width f)))
      (nonneg (nat_abs (f.b.y -ℤ f.a.y))) fits (within_size (width f)).0 (within_size (width f)).1
      (within_size (f.b.y -ℤ f.a.y)).0 (within_size (f.b.y -ℤ f.a.y)).1
      (opposite q.x q.d p.x p.d near.left) near.right (opposite q.y q.d p.y p.d near.down) near.up
    where
      nonneg : (m : ℕ) → pos 0 ≤ℤ pos m
      nonneg m = omega (arith, ints)

      opposite : (u c x d : ℤ) → (pos n *ℤ (x *ℤ c -ℤ u *ℤ d)) ≤ℤ (c *ℤ d) →
          neg_ℤ (c *ℤ d) ≤ℤ (pos n *ℤ (u *ℤ d -ℤ x *ℤ c))
      opposite u c x d le =
          let is = solve 5 (λ n u c x d. n ⊗ (x ⊗ c ⊖ u ⊗ d) ≗ ⊝ (n ⊗ (u ⊗ d ⊖ x ⊗ c))) tt (pos n) u c x d in
          omega linear

  turned_there : side f q *ℤ p.d ≡ p.d *ℤ side f q
  turned_there = solve 2 (λ s d. s ⊗ d ≗ d ⊗ s) tt (side f q) p.d

  pub above_there : pos 0 <ℤ side f p → pos 0 <ℤ side f q
  above_there high =
      let one = mul-le q.d (pos 1) (side f p) (let c = q.positive in omega linear) (omega linear) in
      let once = solve 1 (λ c. c ⊗ number (pos 1) ≗ c) tt q.d in
      let turned = solve 2 (λ s c. c ⊗ s ≗ s ⊗ c) tt (side f p) q.d in
      let is = side_there in
      let low = little.0 in
      let there = turned_there in
      pos_of_mul-pos p.d (side f q) p.positive (omega linear)

  pub below_there : side f p <ℤ pos 0 → side f q <ℤ pos 0
  below_there less =
      let one = mul-le q.d (side f p) (negsuc 0) (let c = q.positive in omega linear) (omega linear) in
      let once = solve 1 (λ c. c ⊗ number (negsuc 0) ≗ ⊝ c) tt q.d in
      let turned = solve 2 (λ s c. c ⊗ s ≗ s ⊗ c) tt (side f p) q.d in
      let is = side_there in
      let high = little.1 in
      let there = turned_there in
      neg_of_mul-neg p.d (side f q) p.positive (omega linear)

  level_there : side f q ≡ pos 0 → side f p ≡ pos 0
  level_there level = by_sign (side f p) (λ low. absurd (let l = below_there low in omega linear)) (λ is. is)
      (λ high. absurd (let h = above_there high in omega linear))

  -- an edge with q has p
  pub on_near : IsOn f q → IsOn f p
  on_near on = record {
    on_line = level_there on.on_line;
    in_x = ⊎_elim (λ h. inl (from_x f.a.x h.0, to_x f.b.x h.1)) (λ h. inr (from_x f.b.x h.0, to_x f.a.x h.1)) on.in_x;
    in_y = ⊎_elim (λ h. inl (from_y f.a.y h.0, to_y f.b.y h.1)) (λ h. inr (from_y f.b.y h.0, to_y f.a.y h.1)) on.in_y;
  }

  module _ (off : ¬ (IsOn f p)) where
    -- an edge that covers q.x spans p.x, so p is not on its line
    not_level : covers f q.x q.d ≡ true → ¬ (side f p ≡ pos 0)
    not_level over level = off (record {
      on_line = level;
      in_x = inl (spans.from, spans.to);
      in_y = between_on_line f p.x p.y p.d (covers_wide f q.x q.d q.positive over) level spans;
    })
      where
        spans : Spans f p.x p.d
        spans = record {
          from = from_x f.a.x (covers_from f q.x q.d over);
          to = to_x f.b.x (let to = covers_to f q.x q.d over in omega linear);
        }

    -- it is below p where it is below q
    high_back : covers f q.x q.d ≡ true → pos 0 <ℤ side f q → pos 0 <ℤ side f p
    high_back over high = by_sign (side f p) (λ low. absurd (let l = below_there low in omega linear))
        (λ level. absurd (not_level over level)) (λ is. is)

    -- edges are below points to the right as they are below p
    pub right_below : pos 0 ≤ℤ across → is_strictly_below f q ≡ is_strictly_below f p
    right_below right = same_tests (is_strictly_below f q) (is_strictly_below f p) back forth
      where
        scaled : (z : ℤ) → p.d *ℤ (z *ℤ q.d) ≡ q.d *ℤ (z *ℤ p.d)
        scaled z = solve 3 (λ z d c. d ⊗ (z ⊗ c) ≗ c ⊗ (z ⊗ d)) tt z p.d q.d

        level_x : p.d *ℤ q.x ≡ q.d *ℤ p.x +ℤ across
        level_x = solve 4 (λ x d u c. d ⊗ u ≗ c ⊗ x ⊕ (u ⊗ d ⊖ x ⊗ c)) tt p.x p.d q.x q.d

        -- a whole number up to p.x is up to q.x
        up_to : (z : ℤ) → (z *ℤ p.d) ≤ℤ p.x → (z *ℤ q.d) ≤ℤ q.x
        up_to z le = by_lt_z q.x (z *ℤ q.d) (λ less. absurd (
            let lt = mul-lt p.d q.x (z *ℤ q.d) p.positive less in
            let ge = mul-le q.d (z *ℤ p.d) p.x (let c = q.positive in omega linear) le in
            let is = scaled z in
            let x = level_x in
            omega linear)) (λ ge. ge)

        back : is_strictly_below f q ≡ true → is_strictly_below f p ≡ true
        back t =
            let parts = and_parts (covers f q.x q.d) (int_lt (pos 0) (side f q)) t in
            and_from (covers f p.x p.d) (int_lt (pos 0) (side f p))
            (and_from (int_le (f.a.x *ℤ p.d) p.x) (int_lt p.x (f.b.x *ℤ p.d))
            (test_from_le (f.a.x *ℤ p.d) p.x (from_x f.a.x (covers_from f q.x q.d parts.0)))
            (test_from_lt p.x (f.b.x *ℤ p.d) (by_lt_z p.x (f.b.x *ℤ p.d) (λ less. less)
            (λ ge. absurd (let le = up_to f.b.x ge in let to = covers_to f q.x q.d parts.0 in omega linear)))))
            (test_from_lt (pos 0) (side f p) (high_back parts.0 (lt_from_test (pos 0) (side f q) parts.1)))

        forth : is_strictly_below f p ≡ true → is_strictly_below f q ≡ true
        forth t =
            let parts = and_parts (covers f p.x p.d) (int_lt (pos 0) (side f p)) t in
            and_from (covers f q.x q.d) (int_lt (pos 0) (side f q))
            (and_from (int_le (f.a.x *ℤ q.d) q.x) (int_lt q.x (f.b.x *ℤ q.d))
            (test_from_le (f.a.x *ℤ q.d) q.x (up_to f.a.x (covers_from f p.x p.d parts.0)))
            (test_from_lt q.x (f.b.x *ℤ q.d) (before_x f.b.x (covers_to f p.x p.d parts.0))))
            (test_from_lt (pos 0) (side f q) (above_there (lt_from_test (pos 0) (side f p) parts.1)))

    -- and below points to the left as they go on to the left of p, below it
    pub left_below : across <ℤ pos 0 → is_strictly_below f q ≡ is_left_below f p
    left_below left = same_tests (is_strictly_below f q) (is_left_below f p) back forth
      where
        scaled : (z : ℤ) → p.d *ℤ (z *ℤ q.d) ≡ q.d *ℤ (z *ℤ p.d)
        scaled z = solve 3 (λ z d c. d ⊗ (z ⊗ c) ≗ c ⊗ (z ⊗ d)) tt z p.d q.d

        level_x : p.d *ℤ q.x ≡ q.d *ℤ p.x +ℤ across
        level_x = solve 4 (λ x d u c. d ⊗ u ≗ c ⊗ x ⊕ (u ⊗ d ⊖ x ⊗ c)) tt p.x p.d q.x q.d

        -- a whole number from p.x on is after q.x
        after : (z : ℤ) → p.x ≤ℤ (z *ℤ p.d) → q.x <ℤ (z *ℤ q.d)
        after z le = by_lt_z q.x (z *ℤ q.d) (λ less. less) (λ ge. absurd (
            let more = mul-le p.d (z *ℤ q.d) q.x (let d = p.positive in omega linear) ge in
            let least = mul-le q.d p.x (z *ℤ p.d) (let c = q.positive in omega linear) le in
            let is = scaled z in
            let x = level_x in
            omega linear))

        back : is_strictly_below f q ≡ true → is_left_below f p ≡ true
        back t =
            let parts = and_parts (covers f q.x q.d) (int_lt (pos 0) (side f q)) t in
            and_from (int_lt (f.a.x *ℤ p.d) p.x && int_le p.x (f.b.x *ℤ p.d)) (int_lt (pos 0) (side f p))
            (and_from (int_lt (f.a.x *ℤ p.d) p.x) (int_le p.x (f.b.x *ℤ p.d))
            (test_from_lt (f.a.x *ℤ p.d) p.x (by_lt_z (f.a.x *ℤ p.d) p.x (λ less. less)
            (λ ge. absurd (let lt = after f.a.x ge in let from = covers_from f q.x q.d parts.0 in omega linear))))
            (test_from_le p.x (f.b.x *ℤ p.d) (to_x f.b.x (let to = covers_to f q.x q.d parts.0 in omega linear))))
            (test_from_lt (pos 0) (side f p) (high_back parts.0 (lt_from_test (pos 0) (side f q) parts.1)))

        forth : is_left_below f p ≡ true → is_strictly_below f q ≡ true
        forth t =
            let parts = and_parts (int_lt (f.a.x *ℤ p.d) p.x && int_le p.x (f.b.x *ℤ p.d))
            (int_lt (pos 0) (side f p)) t in
            let over = and_parts (int_lt (f.a.x *ℤ p.d) p.x) (int_le p.x (f.b.x *ℤ p.d)) parts.0 in
            and_from (covers f q.x q.d) (int_lt (pos 0) (side f q))
            (and_from (int_le (f.a.x *ℤ q.d) q.x) (int_lt q.x (f.b.x *ℤ q.d))
            (test_from_le (f.a.x *ℤ q.d) q.x
            (let less = after_x f.a.x (lt_from_test (f.a.x *ℤ p.d) p.x over.0) in omega linear))
            (test_from_lt q.x (f.b.x *ℤ q.d) (after f.b.x (le_from_test p.x (f.b.x *ℤ p.d) over.1))))
            (test_from_lt (pos 0) (side f q) (above_there (lt_from_test (pos 0) (side f p) parts.1)))
