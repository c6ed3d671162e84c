-- Closures of sets of points, and of the sets of the points n times as far: a point is in the first exactly where the
-- point n times as far is in the second.
use Rattle.std.proofs.Common.{◌≡◌, ◌↔◌, ℕ, ◌*◌, ℤ, pos, negsuc, nat_abs, ◌-ℤ◌, ◌*ℤ◌, ◌<ℤ◌, ◌≤ℤ◌, ap, arith}
use Rattle.std.proofs.lemmas.Int.{ints}
use Rattle.overlay_geom.specs.Plane.{PlanePoint}
use Rattle.overlay_geom.proofs.Identities.{solve, number, ◌⊗◌, ◌⊖◌, ◌≗◌}
use Rattle.overlay_geom.proofs.Signs.{linear, mul-le, mul-pos}
use Rattle.overlay_relate.specs.Closures.{AreWithinPart, IsInClosure, ClosuresMeet, ClosuresTouch}
use Rattle.overlay_relate.specs.Closures.{ClosuresMeetInPoints, AreClosuresApart}
use Rattle.overlay_scaled.proofs.ScaledMeetings.{place_forth, place_back}
use Rattle.overlay_scaled.proofs.ScaledPoints.{further, is_further, nearer, is_nearer}

-- the second set has the points n times as far as those of the first
pub record AreTimes (n : ℤ) (some : pos 0 <ℤ n) (first second : PlanePoint → Type 0) : Type 0 where
  pub into : (p : PlanePoint) → first p → second (further n p)
  pub back : (q : PlanePoint) → second q → first (nearer n some q)

module _ (n : ℤ) (some : pos 0 <ℤ n) where
  -- ---- near points

  -- the scale as a natural number
  abbrev size : ℕ
  size = nat_abs n

  size_is : (k : ℕ) → pos (k * size) ≡ pos k *ℤ n
  size_is k = by n some
    where
      by : (z : ℤ) → pos 0 <ℤ z → pos (k * nat_abs z) ≡ pos k *ℤ z
      by (pos m) h = omega (arith, ints)
      by (negsuc m) h = absurd (omega linear)

  further_part : (k : ℕ) (x d z c : ℤ) → (pos (k * size) *ℤ (x *ℤ c -ℤ z *ℤ d)) ≤ℤ (d *ℤ c) →
      (pos k *ℤ ((n *ℤ x) *ℤ c -ℤ (n *ℤ z) *ℤ d)) ≤ℤ (d *ℤ c)
  further_part k x d z c le =
      let is = ap (λ m. m *ℤ (x *ℤ c -ℤ z *ℤ d)) (size_is k) in
      let identity = solve 6 (λ k n x d z c. k ⊗ ((n ⊗ x) ⊗ c ⊖ (n ⊗ z) ⊗ d) ≗ (k ⊗ n) ⊗ (x ⊗ c ⊖ z ⊗ d)) tt (pos k) n
      x d z c in
      omega linear

  near_further : (k : ℕ) (p r : PlanePoint) → AreWithinPart (k * size) p r →
      AreWithinPart k (further n p) (further n r)
  near_further k p r near = record {
    right = further_part k p.x p.d r.x r.d near.right;
    left = turned (p.x) (r.x) near.left;
    up = further_part k p.y p.d r.y r.d near.up;
    down = turned (p.y) (r.y) near.down;
  }
    where
      turned : (x z : ℤ) → (pos (k * size) *ℤ (z *ℤ p.d -ℤ x *ℤ r.d)) ≤ℤ (p.d *ℤ r.d) →
          (pos k *ℤ ((n *ℤ z) *ℤ p.d -ℤ (n *ℤ x) *ℤ r.d)) ≤ℤ (p.d *ℤ r.d)
      turned x z le =
          let is = ap (λ m. m *ℤ (z *ℤ p.d -ℤ x *ℤ r.d)) (size_is k) in
          let identity = solve 6 (λ k n x d z c. k ⊗ ((n ⊗ z) ⊗ d ⊖ (n ⊗ x) ⊗ c) ≗ (k ⊗ n) ⊗ (z ⊗ d ⊖ x ⊗ c)) tt (pos k)
          n x p.d z r.d in
          omega linear

  -- a multiple of a number that is no greater than a product is no greater than that product's multiples
  nearer_part : (k : ℕ) (x d z c : ℤ) → pos 0 <ℤ d → pos 0 <ℤ c → (pos k *ℤ (x *ℤ c -ℤ z *ℤ d)) ≤ℤ (d *ℤ c) →
      (pos k *ℤ (x *ℤ (n *ℤ c) -ℤ z *ℤ (n *ℤ d))) ≤ℤ ((n *ℤ d) *ℤ (n *ℤ c))
  nearer_part k x d z c d_pos c_pos le =
      let more = mul-le n (pos k *ℤ (x *ℤ c -ℤ z *ℤ d)) (d *ℤ c) (let s = some in omega linear) le in
      let product = mul-pos n (d *ℤ c) some (mul-pos d c d_pos c_pos) in
      let again = mul-le (n *ℤ (d *ℤ c)) (pos 1) n (omega linear) (let s = some in omega linear) in
      let left = solve 6 (λ k n x d z c. k ⊗ (x ⊗ (n ⊗ c) ⊖ z ⊗ (n ⊗ d)) ≗ n ⊗ (k ⊗ (x ⊗ c ⊖ z ⊗ d))) tt (pos k) n x d z
      c in
      let right = solve 3 (λ n d c. (n ⊗ d) ⊗ (n ⊗ c) ≗ (n ⊗ (d ⊗ c)) ⊗ n) tt n d c in
      let once = solve 3 (λ n d c. (n ⊗ (d ⊗ c)) ⊗ number (pos 1) ≗ n ⊗ (d ⊗ c)) tt n d c in
      omega linear

  near_nearer : (k : ℕ) (q s : PlanePoint) → AreWithinPart k q s →
      AreWithinPart k (nearer n some q) (nearer n some s)
  near_nearer k q s near = record {
    right = nearer_part k q.x q.d s.x s.d q.positive s.positive near.right;
    left = turned q.x s.x near.left;
    up = nearer_part k q.y q.d s.y s.d q.positive s.positive near.up;
    down = turned q.y s.y near.down;
  }
    where
      turned : (x z : ℤ) → (pos k *ℤ (z *ℤ q.d -ℤ x *ℤ s.d)) ≤ℤ (q.d *ℤ s.d) →
          (pos k *ℤ (z *ℤ (n *ℤ q.d) -ℤ x *ℤ (n *ℤ s.d))) ≤ℤ ((n *ℤ q.d) *ℤ (n *ℤ s.d))
      turned x z le =
          let other = solve 2 (λ d c. d ⊗ c ≗ c ⊗ d) tt q.d s.d in
          let scaled = solve 2 (λ d c. d ⊗ c ≗ c ⊗ d) tt (n *ℤ q.d) (n *ℤ s.d) in
          let less = nearer_part k z s.d x q.d s.positive q.positive (omega linear) in
          omega linear

  -- ---- closures

  module _ (first second : PlanePoint → Type 0) (times : AreTimes n some first second) where
    closure_forth : (p : PlanePoint) → IsInClosure first p → IsInClosure second (further n p)
    closure_forth p close k = let at = close (k * size) in
        (further n at.0, times.into at.0 at.1, near_further k at.0 p at.2)

    closure_back : (q : PlanePoint) → IsInClosure second q → IsInClosure first (nearer n some q)
    closure_back q close k = let at = close k in
        (nearer n some at.0, times.back at.0 at.1, near_nearer k at.0 q at.2)

  module _ (a b c d : PlanePoint → Type 0) (ac : AreTimes n some a c) (bd : AreTimes n some b d) where
    meet_forth : ClosuresMeet a b → ClosuresMeet c d
    meet_forth (p, s, k) = (further n p, closure_forth a c ac p s, closure_forth b d bd p k)

    meet_back : ClosuresMeet c d → ClosuresMeet a b
    meet_back (q, s, k) = (nearer n some q, closure_back a c ac q s, closure_back b d bd q k)

    pub scaled_meeting : ClosuresMeet a b ↔ ClosuresMeet c d
    scaled_meeting = (meet_forth, meet_back)

    pub scaled_apart : AreClosuresApart a b ↔ AreClosuresApart c d
    scaled_apart = (λ none at. none (meet_back at), λ none at. none (meet_forth at))

    pub scaled_touch : ClosuresTouch a b ↔ ClosuresTouch c d
    scaled_touch = (
      λ h. (meet_forth h.0, λ q s k. h.1 (nearer n some q) (ac.back q s) (bd.back q k)),
      λ h. (meet_back h.0, λ p s k. h.1 (further n p) (ac.into p s) (bd.into p k)),
    )

    alone_forth : ClosuresMeetInPoints a b → ClosuresMeetInPoints c d
    alone_forth h = (
      meet_forth h.0,
      λ q s k.
          let alone = h.1 (nearer n some q) (closure_back a c ac q s) (closure_back b d bd q k) in (
            alone.0,
            λ r t u near. place_forth n some (nearer n some r) r (nearer n some q) q (is_nearer n some r)
                (is_nearer n some q) (alone.1 (nearer n some r) (closure_back a c ac r t) (closure_back b d bd r u)
                (near_nearer alone.0 r q near)),
          ),
    )

    alone_back : ClosuresMeetInPoints c d → ClosuresMeetInPoints a b
    alone_back h = (
      meet_back h.0,
      λ p s k.
          let alone = h.1 (further n p) (closure_forth a c ac p s) (closure_forth b d bd p k) in (
            alone.0 * size,
            λ r t u near. place_back n some r (further n r) p (further n p) (is_further n r)
                (is_further n p) (alone.1 (further n r) (closure_forth a c ac r t) (closure_forth b d bd r u)
                (near_further alone.0 r p near)),
          ),
    )

    pub scaled_points : ClosuresMeetInPoints a b ↔ ClosuresMeetInPoints c d
    scaled_points = (alone_forth, alone_back)
