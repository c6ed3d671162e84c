-- Points of the plane by x, then by y: a strict order that a test decides, with ties exactly for equal points of the
-- plane.
use Rattle.std.proofs.Common.{◌≡◌, inl, inr, Bool, true, false, ◌&&◌, ◌||◌, ℤ, pos, ◌*ℤ◌, ◌<ℤ◌, ◌≤ℤ◌, int_lt, sym}
use Rattle.std.specs.Bool.{Decides}
use Rattle.std.specs.Ordering.{int_eq}
use Rattle.std.proofs.lemmas.Bool.{false_from_ne_true}
use Rattle.std.proofs.lemmas.Bool.Decides.{Decides-int_eq, Decides-and, Decides-or, not_from_Decides}
use Rattle.std.proofs.lemmas.Int.{by_lt_z}
use Rattle.overlay_geom.specs.Plane.{PlanePoint, SamePlace}
use Rattle.overlay_geom.proofs.Comparisons.{Decides-int_lt}
use Rattle.overlay_geom.proofs.Identities.{solve, ◌⊗◌, ◌≗◌}
use Rattle.overlay_geom.proofs.Signs.{linear, mul-lt, mul-le, lt_of_mul-lt, le_of_mul-le}
use Rattle.overlay_plane.specs.Rounds.{IsSmaller}

-- ---- fractions: x / d, y / c and z / b

-- a product of three, with the third factor first
third_first : (x c b : ℤ) → b *ℤ (x *ℤ c) ≡ c *ℤ (x *ℤ b)
third_first = solve 3 (λ x c b. b ⊗ (x ⊗ c) ≗ c ⊗ (x ⊗ b)) tt

-- `at most` is transitive
pub fraction_le : (x d y c z b : ℤ) → pos 0 <ℤ d → pos 0 <ℤ c → pos 0 <ℤ b → (x *ℤ c) ≤ℤ (y *ℤ d) →
    (y *ℤ b) ≤ℤ (z *ℤ c) → (x *ℤ b) ≤ℤ (z *ℤ d)
fraction_le x d y c z b d_pos c_pos b_pos first second =
    let low = mul-le b (x *ℤ c) (y *ℤ d) (omega linear) first in
    let high = mul-le d (y *ℤ b) (z *ℤ c) (omega linear) second in
    let from = third_first x c b in
    let middle = third_first y d b in
    let to = third_first z c d in
    le_of_mul-le c (x *ℤ b) (z *ℤ d) c_pos (omega linear)

-- a number below a number at most another is below that
fraction_lt_le : (x d y c z b : ℤ) → pos 0 <ℤ d → pos 0 <ℤ c → pos 0 <ℤ b → (x *ℤ c) <ℤ (y *ℤ d) →
    (y *ℤ b) ≤ℤ (z *ℤ c) → (x *ℤ b) <ℤ (z *ℤ d)
fraction_lt_le x d y c z b d_pos c_pos b_pos first second =
    let low = mul-lt b (x *ℤ c) (y *ℤ d) b_pos first in
    let high = mul-le d (y *ℤ b) (z *ℤ c) (omega linear) second in
    let from = third_first x c b in
    let middle = third_first y d b in
    let to = third_first z c d in
    lt_of_mul-lt c (x *ℤ b) (z *ℤ d) c_pos (omega linear)

-- a number at most a number below another is below that
fraction_le_lt : (x d y c z b : ℤ) → pos 0 <ℤ d → pos 0 <ℤ c → pos 0 <ℤ b → (x *ℤ c) ≤ℤ (y *ℤ d) →
    (y *ℤ b) <ℤ (z *ℤ c) → (x *ℤ b) <ℤ (z *ℤ d)
fraction_le_lt x d y c z b d_pos c_pos b_pos first second =
    let low = mul-le b (x *ℤ c) (y *ℤ d) (omega linear) first in
    let high = mul-lt d (y *ℤ b) (z *ℤ c) d_pos second in
    let from = third_first x c b in
    let middle = third_first y d b in
    let to = third_first z c d in
    lt_of_mul-lt c (x *ℤ b) (z *ℤ d) c_pos (omega linear)

-- equality is transitive
fraction_eq : (x d y c z b : ℤ) → pos 0 <ℤ d → pos 0 <ℤ c → pos 0 <ℤ b → x *ℤ c ≡ y *ℤ d → y *ℤ b ≡ z *ℤ c →
    x *ℤ b ≡ z *ℤ d
fraction_eq x d y c z b d_pos c_pos b_pos first second =
    let low = fraction_le x d y c z b d_pos c_pos b_pos (omega linear) (omega linear) in
    let high = fraction_le z b y c x d b_pos c_pos d_pos (omega linear) (omega linear) in
    omega linear

-- ---- places

-- points at the place of one point are at one place
pub same_place-trans : (p q r : PlanePoint) → SamePlace p q → SamePlace q r → SamePlace p r
same_place-trans p q r first second = (
  fraction_eq p.x p.d q.x q.d r.x r.d p.positive q.positive r.positive first.0 second.0,
  fraction_eq p.y p.d q.y q.d r.y r.d p.positive q.positive r.positive first.1 second.1,
)

-- ---- the order

-- p is smaller than q
abbrev pub is_smaller : PlanePoint → PlanePoint → Bool
is_smaller p q = int_lt (p.x *ℤ q.d) (q.x *ℤ p.d) || (int_eq (p.x *ℤ q.d) (q.x *ℤ p.d) && int_lt (p.y *ℤ q.d)
    (q.y *ℤ p.d))

-- the test tells whether p is smaller than q
pub Decides-is_smaller : (p q : PlanePoint) → Decides (is_smaller p q) (IsSmaller p q)
Decides-is_smaller p q = Decides-or _ _ (Decides-int_lt (p.x *ℤ q.d) (q.x *ℤ p.d))
    (Decides-and _ _ (Decides-int_eq (p.x *ℤ q.d) (q.x *ℤ p.d)) (Decides-int_lt (p.y *ℤ q.d) (q.y *ℤ p.d)))

-- no point is smaller than itself
pub smaller-irreflexive : (p : PlanePoint) → is_smaller p p ≡ false
smaller-irreflexive p = false_from_ne_true (is_smaller p p) (λ t. against ((Decides-is_smaller p p).0 t))
  where
    against : IsSmaller p p → ⊥
    against (inl lt) = omega linear
    against (inr (same, lt)) = omega linear

-- `smaller` is transitive
pub smaller-transitive : (p q r : PlanePoint) → is_smaller p q ≡ true → is_smaller q r ≡ true → is_smaller p r ≡ true
smaller-transitive p q r first second = (Decides-is_smaller p r).1
    (by ((Decides-is_smaller p q).0 first) ((Decides-is_smaller q r).0 second))
  where
    by : IsSmaller p q → IsSmaller q r → IsSmaller p r
    by (inl lt) (inl next) = inl (fraction_lt_le p.x p.d q.x q.d r.x r.d p.positive q.positive r.positive lt
        (omega linear))
    by (inl lt) (inr (same, next)) = inl (fraction_lt_le p.x p.d q.x q.d r.x r.d p.positive q.positive r.positive lt
        (omega linear))
    by (inr (same, lt)) (inl next) = inl (fraction_le_lt p.x p.d q.x q.d r.x r.d p.positive q.positive r.positive
        (omega linear) next)
    by (inr (same, lt)) (inr (level, next)) = inr (
      fraction_eq p.x p.d q.x q.d r.x r.d p.positive q.positive r.positive same level,
      fraction_lt_le p.y p.d q.y q.d r.y r.d p.positive q.positive r.positive lt (omega linear),
    )

-- two points are at one place if neither is smaller
pub same_place-from_tie : (p q : PlanePoint) → is_smaller p q ≡ false → is_smaller q p ≡ false → SamePlace p q
same_place-from_tie p q first second = (
  level,
  by_lt_z (p.y *ℤ q.d) (q.y *ℤ p.d) (λ lt. absurd (below (inr (level, lt)))) (λ ge.
      by_lt_z (q.y *ℤ p.d) (p.y *ℤ q.d) (λ lt. absurd (above (inr (sym level, lt)))) (λ le. omega linear)),
)
  where
    below : ¬ (IsSmaller p q)
    below = not_from_Decides (is_smaller p q) (Decides-is_smaller p q) first

    above : ¬ (IsSmaller q p)
    above = not_from_Decides (is_smaller q p) (Decides-is_smaller q p) second

    level : p.x *ℤ q.d ≡ q.x *ℤ p.d
    level = by_lt_z (p.x *ℤ q.d) (q.x *ℤ p.d) (λ lt. absurd (below (inl lt)))
        (λ ge. by_lt_z (q.x *ℤ p.d) (p.x *ℤ q.d) (λ lt. absurd (above (inl lt))) (λ le. omega linear))
