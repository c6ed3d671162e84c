-- A product divided with a remainder as its first factor is built up bit by bit, and the quotient rounded at the half.
use Rattle.std.proofs.Common.{◌≡◌, ℕ, ◌+◌, ◌*◌, ◌/◌, ◌%◌, ◌<◌, ◌≤◌, ◌⊎◌, inl, inr, pos, neg_ℤ, ◌*ℤ◌, ap, sym}
use Rattle.std.proofs.Common.{mul-le-mul, arith}
use Rattle.std.proofs.lemmas.Bool.{cases_lt}
use Rattle.std.proofs.lemmas.Int.{ints}
use Rattle.overlay_geom.specs.Rounding.{nearest}
use Rattle.overlay_geom.proofs.Identities.{solve, number, ◌⊗◌, ⊝◌, ◌≗◌}
use Rattle.overlay_geom.proofs.Rounded.{nearest-unique}

-- the value with twice the quotient and twice the remainder is that of an even factor
pub value-even : (n t d q r : ℕ) → (n % 2 ≡ 1 → ⊥) → n / 2 * t ≡ q * d + r → n * t ≡ 2 * q * d + 2 * r
value-even n t d q r even value =
    let halves : n ≡ 2 * (n / 2) = omega arith in
    let product = ap (λ k. k * t) halves in
    omega arith

-- the value of an odd number: the other factor is added to the remainder
pub value-odd : (n t d q r : ℕ) → n % 2 ≡ 1 → n / 2 * t ≡ q * d + r → n * t ≡ 2 * q * d + 2 * r + t
value-odd n t d q r odd value =
    let halves : n ≡ 2 * (n / 2) + 1 = omega arith in
    let product = ap (λ k. k * t) halves in
    omega arith

-- the quotient is at most the first factor, where the second is at most the divisor
pub quotient_within : (n t d q r : ℕ) → 0 < d → t ≤ d → n * t ≡ q * d + r → q ≤ n
quotient_within n t d q r positive part value = by (cases_lt n q)
  where
    by : (n < q) ⊎ (q ≤ n) → q ≤ n
    by (inr le) = le
    by (inl lt) =
        let above : (n + 1) * d ≤ q * d = mul-le-mul (omega arith) (omega arith) in
        let below : n * t ≤ n * d = mul-le-mul (omega arith) part in
        absurd (omega arith)

-- ---- rounded at the half

-- a remainder of at least half the divisor rounds up
pub half_up-more : (q r d : ℕ) → r < d → d ≤ 2 * r → pos (q + 1) ≡ nearest (pos (q * d + r)) (pos d)
half_up-more q r d rest half =
    sym (nearest-unique (pos (q * d + r)) (pos d) (pos (q + 1)) (omega (arith, ints)) (omega (arith, ints))
    (omega (arith, ints)))

-- a smaller one does not
pub half_up-kept : (q r d : ℕ) → r < d → 2 * r < d → pos q ≡ nearest (pos (q * d + r)) (pos d)
half_up-kept q r d rest less =
    sym (nearest-unique (pos (q * d + r)) (pos d) (pos q) (omega (arith, ints)) (omega (arith, ints))
    (omega (arith, ints)))

-- twice a number times the divisor, below 0
doubled_below : (q d : ℕ) → pos 2 *ℤ neg_ℤ (pos q) *ℤ pos d ≡ neg_ℤ (pos (2 * q * d))
doubled_below q d = solve 2 (λ q d. number (pos 2) ⊗ (⊝ q) ⊗ d ≗ ⊝ (number (pos 2) ⊗ q ⊗ d)) tt (pos q) (pos d)

-- below 0, a remainder of more than half the divisor rounds down
pub half_down-more : (q r d : ℕ) → r < d → d < 2 * r → neg_ℤ (pos (q + 1)) ≡ nearest (neg_ℤ (pos (q * d + r))) (pos d)
half_down-more q r d rest half =
    let product = doubled_below (q + 1) d in
    sym (nearest-unique (neg_ℤ (pos (q * d + r))) (pos d) (neg_ℤ (pos (q + 1)))
    (omega (arith, ints)) (omega (arith, ints)) (omega (arith, ints)))

-- a smaller one, or half the divisor, does not
pub half_down-kept : (q r d : ℕ) → r < d → 2 * r ≤ d → neg_ℤ (pos q) ≡ nearest (neg_ℤ (pos (q * d + r))) (pos d)
half_down-kept q r d rest le =
    let product = doubled_below q d in
    sym (nearest-unique (neg_ℤ (pos (q * d + r))) (pos d) (neg_ℤ (pos q))
    (omega (arith, ints)) (omega (arith, ints)) (omega (arith, ints)))
