-- The whole number nearest to a point between two whole numbers: the start plus the rounded distance on the way up, and
-- minus it on the way down.
use Rattle.std.proofs.Common.{◌≡◌, inl, inr, ℕ, ◌*◌, ℤ, pos, neg_ℤ, ◌+ℤ◌, ◌-ℤ◌, ◌*ℤ◌, ◌<ℤ◌, ◌≤ℤ◌, ap, ap₂, sym, ◌∙◌}
use Rattle.std.proofs.Common.{arith}
use Rattle.std.specs.Int.RustNames.{unsigned_abs}
use Rattle.std.proofs.lemmas.Int.{ints}
use Rattle.overlay_geom.specs.Numbers.{Within}
use Rattle.overlay_geom.specs.Plane.{IsBetween}
use Rattle.overlay_geom.specs.Rounding.{nearest}
use Rattle.overlay_geom.proofs.Identities.{solve, number, ◌⊕◌, ◌⊗◌, ◌≗◌}
use Rattle.overlay_geom.proofs.Products.{neg_ℤ-mul}
use Rattle.overlay_geom.proofs.Signs.{linear}
use Rattle.overlay_geom.proofs.Rounded.{nearest-unique, nearest-strict, nearest-within, part_way-between}

-- the number nearest to the point t / d of the way from u to v
abbrev pub place : (u v t d : ℤ) → ℤ
place u v t d = nearest (u *ℤ d +ℤ (v -ℤ u) *ℤ t) d

-- a fraction with a whole number added is rounded as it was, with that number added
nearest-shifted : (v z d : ℤ) → pos 0 <ℤ d → nearest (v *ℤ d +ℤ z) d ≡ v +ℤ nearest z d
nearest-shifted v z d p =
    let sum = solve 3 (λ v q d. number (pos 2) ⊗ (v ⊕ q) ⊗ d ≗ v ⊗ d ⊕ v ⊗ d ⊕ number (pos 2) ⊗ q ⊗ d) tt v
    (nearest z d) d in
    let twice = solve 3 (λ v z d. number (pos 2) ⊗ (v ⊗ d ⊕ z) ≗ v ⊗ d ⊕ v ⊗ d ⊕ number (pos 2) ⊗ z) tt v z d in
    let below = nearest-strict z d p in
    let above = (nearest-within z d p).1 in
    nearest-unique (v *ℤ d +ℤ z) d (v +ℤ nearest z d) p (omega linear) (omega linear)

-- the size of a number that is not negative is that number
size-nonneg : (z : ℤ) → pos 0 ≤ℤ z → pos (unsigned_abs z) ≡ z
size-nonneg z h = omega (arith, ints)

-- the size of one that is not positive is that number with the other sign
size-nonpos : (z : ℤ) → z ≤ℤ pos 0 → neg_ℤ (pos (unsigned_abs z)) ≡ z
size-nonpos z h = omega (arith, ints)

-- the number of steps times the part of them is the distance on the way up
distance_up : (u v t : ℤ) (n k m : ℕ) → u ≤ℤ v → pos 0 ≤ℤ t → n ≡ unsigned_abs (v -ℤ u) → k ≡ unsigned_abs t →
    n * k ≡ m →
    pos m ≡ (v -ℤ u) *ℤ t
distance_up u v t n k m rising begun steps part value =
    ap pos (sym value) ∙ ap₂ (λ a b. a *ℤ b) (ap pos steps ∙ size-nonneg (v -ℤ u) (omega linear))
    (ap pos part ∙ size-nonneg t begun)

-- the distance on the way down, with the opposite sign
distance_down : (u v t : ℤ) (n k m : ℕ) → v ≤ℤ u → pos 0 ≤ℤ t → n ≡ unsigned_abs (v -ℤ u) → k ≡ unsigned_abs t →
    n * k ≡ m →
    neg_ℤ (pos m) ≡ (v -ℤ u) *ℤ t
distance_down u v t n k m falling begun steps part value =
    ap (λ j. neg_ℤ (pos j)) (sym value) ∙ sym (neg_ℤ-mul (pos n) (pos k)) ∙
    ap₂ (λ a b. a *ℤ b) (ap (λ j. neg_ℤ (pos j)) steps ∙ size-nonpos (v -ℤ u) (omega linear))
    (ap pos part ∙ size-nonneg t begun)

-- the program's numbers for a way: its length, and the part and the whole by which they are divided
pub record Counted (u v t d : ℤ) (n k j : ℕ) : Type 0 where
  pub begun : pos 0 ≤ℤ t
  pub divides : pos 0 <ℤ d
  pub steps : n ≡ unsigned_abs (v -ℤ u)
  pub part : k ≡ unsigned_abs t
  pub whole : j ≡ unsigned_abs d

-- the way up
pub rises : (u v t d : ℤ) (n k j m h : ℕ) → u ≤ℤ v → Counted u v t d n k j → n * k ≡ m →
    pos h ≡ nearest (pos m) (pos j) →
    u +ℤ pos h ≡ place u v t d
rises u v t d n k j m h rising c value rounded =
    let divisor : pos j ≡ d = ap pos c.whole ∙ size-nonneg d (omega (linear, c.divides)) in
    let distance = distance_up u v t n k m rising c.begun c.steps c.part value in
    ap (λ z. u +ℤ z) (rounded ∙ ap₂ nearest distance divisor) ∙ sym (nearest-shifted u ((v -ℤ u) *ℤ t) d c.divides)

-- the way down
pub falls : (u v t d : ℤ) (n k j m h : ℕ) → v ≤ℤ u → Counted u v t d n k j → n * k ≡ m →
    neg_ℤ (pos h) ≡ nearest (neg_ℤ (pos m)) (pos j) →
    u -ℤ pos h ≡ place u v t d
falls u v t d n k j m h falling c value rounded =
    let divisor : pos j ≡ d = ap pos c.whole ∙ size-nonneg d (omega (linear, c.divides)) in
    let distance = distance_down u v t n k m falling c.begun c.steps c.part value in
    ap (λ z. u +ℤ z) (rounded ∙ ap₂ nearest distance divisor) ∙ sym (nearest-shifted u ((v -ℤ u) *ℤ t) d c.divides)

-- a way between two numbers within a limit stays within it
pub part_way-within : (m : ℕ) (u v t d : ℤ) → Within m u → Within m v → pos 0 ≤ℤ t → t ≤ℤ d → pos 0 <ℤ d →
    Within m (place u v t d)
part_way-within m u v t d from to begun part p = by (part_way-between u v t d begun part p)
  where
    by : {z : ℤ} → IsBetween z u v → Within m z
    by (inl (low, high)) = record { low = omega (linear, from.low); high = omega (linear, to.high) }
    by (inr (low, high)) = record { low = omega (linear, to.low); high = omega (linear, from.high) }
