-- Numbers that two positive factors bring to the same number: they have one order and one sign.
use Rattle.std.proofs.Common.{◌≡◌, ℤ, pos, ◌*ℤ◌, ◌<ℤ◌, ◌≤ℤ◌, int_lt, int_le, sym, ap}
use Rattle.overlay_geom.proofs.Signs.{linear, mul-le, mul-lt, le_of_mul-le, lt_of_mul-lt, mul-zero, zero_of_mul-zero}
use Rattle.overlay_geom.proofs.Signs.{eq_of_mul-eq}
use Rattle.overlay_plane.proofs.Tests.{lt_from_test, test_from_lt, le_from_test, test_from_le, same_tests}

-- k times u is m times v
module _ (k m : ℤ) (k_pos : pos 0 <ℤ k) (m_pos : pos 0 <ℤ m) (u v w z : ℤ) (first : k *ℤ u ≡ m *ℤ w)
    (second : k *ℤ v ≡ m *ℤ z) where
  -- what is in order stays so
  pub le_alike : u ≤ℤ v → w ≤ℤ z
  le_alike le =
      let more = mul-le k u v (omega linear) le in
      le_of_mul-le m w z m_pos (omega linear)

  pub lt_alike : u <ℤ v → w <ℤ z
  lt_alike lt =
      let more = mul-lt k u v k_pos lt in
      lt_of_mul-lt m w z m_pos (omega linear)

-- the tests of the two pairs are equal
module _ (k m : ℤ) (k_pos : pos 0 <ℤ k) (m_pos : pos 0 <ℤ m) (u v w z : ℤ) (first : k *ℤ u ≡ m *ℤ w)
    (second : k *ℤ v ≡ m *ℤ z) where
  pub same_le : int_le u v ≡ int_le w z
  same_le = same_tests (int_le u v) (int_le w z)
      (λ t. test_from_le w z (le_alike k m k_pos m_pos u v w z first second (le_from_test u v t)))
      (λ t. test_from_le u v (le_alike m k m_pos k_pos w z u v (sym first) (sym second) (le_from_test w z t)))

  pub same_lt : int_lt u v ≡ int_lt w z
  same_lt = same_tests (int_lt u v) (int_lt w z)
      (λ t. test_from_lt w z (lt_alike k m k_pos m_pos u v w z first second (lt_from_test u v t)))
      (λ t. test_from_lt u v (lt_alike m k m_pos k_pos w z u v (sym first) (sym second) (lt_from_test w z t)))

-- one is 0 where the other is
pub zero_alike : (k m u w : ℤ) → pos 0 <ℤ m → k *ℤ u ≡ m *ℤ w → u ≡ pos 0 → w ≡ pos 0
zero_alike k m u w m_pos same zero =
    let none = mul-zero k u zero in
    zero_of_mul-zero m w m_pos (omega linear)

-- they are equal where the others are
pub eq_alike : (k m u v w z : ℤ) → pos 0 <ℤ m → k *ℤ u ≡ m *ℤ w → k *ℤ v ≡ m *ℤ z → u ≡ v → w ≡ z
eq_alike k m u v w z m_pos first second same =
    let both = ap (λ y. k *ℤ y) same in
    eq_of_mul-eq m w z m_pos (omega linear)
