-- The two bits of a string's directions: testing, joining and exchanging them.
use Rattle.std.proofs.Common.{◌≡◌, ℕ, zero, suc, ◌+◌, ◌*◌, ◌/◌, ◌%◌, ◌^◌, ◌<◌, max, true, not, ◌||◌, ◌==◌, nat_eq}
use Rattle.std.proofs.Common.{bit_and, bit_or, refl, ap, ap₂, ◌∙◌, arith}
use Rattle.std.specs.Int.{bit_at}
use Rattle.std.proofs.lemmas.Bool.{false_from_ne_true}
use Rattle.std.proofs.lemmas.Bool.Decides.{Decides-eqb}
use Rattle.std.proofs.lemmas.Nat.{pow_pos}
use Rattle.std.proofs.lemmas.Nat.Bits.{bit_at_or, bit_at-lt, and_pow}
use Rattle.overlay_order.specs.Counts.{has_bit, reversed_directions}

-- a number below 2 is 0 or 1
pub by_bit : (P : ℕ → Type 0) (b : ℕ) → b < 2 → P 0 → P 1 → P b
by_bit P zero _ none one = none
by_bit P (suc zero) _ none one = one
by_bit P (suc (suc n)) below none one = absurd (omega arith)

-- a fact of two bits, each 0 or 1, holds of two bits of numbers
pub by_bits : (P : ℕ → ℕ → Type 0) (m i n k : ℕ) → P 0 0 → P 0 1 → P 1 0 → P 1 1 → P (bit_at m i) (bit_at n k)
by_bits P m i n k neither second first both =
    by_bit (λ b. P b (bit_at n k)) (bit_at m i) (bit_at-lt m i)
    (by_bit (P 0) (bit_at n k) (bit_at-lt n k) neither second)
    (by_bit (P 1) (bit_at n k) (bit_at-lt n k) first both)

-- a bit is set in two numbers joined where it is set in one of them
pub has_bit-or : (m n i : ℕ) → has_bit (bit_or m n) i ≡ (has_bit m i || has_bit n i)
has_bit-or m n i = ap (λ b. b == 1) (bit_at_or m n i) ∙ by_bits (λ b d. (max b d == 1) ≡ (b == 1 || d == 1)) m i n i
    refl refl refl refl

-- a mask of one bit tests that bit
pub has_bit-masked : (n k : ℕ) → not (nat_eq (bit_and n (2 ^ k)) 0) ≡ has_bit n k
has_bit-masked n k =
    ap (λ b. not (nat_eq b 0)) (and_pow n k)
    ∙ by_bit (λ b. not (nat_eq (b * 2 ^ k) 0) ≡ (b == 1)) (bit_at n k) (bit_at-lt n k)
    (ap (λ m. not (nat_eq m 0)) (zero_times (2 ^ k)))
    (ap (λ m. not (nat_eq m 0)) (one_times (2 ^ k)) ∙ positive (2 ^ k) (pow_pos k))
  where
    zero_times : (m : ℕ) → 0 * m ≡ 0
    zero_times m = omega arith

    one_times : (m : ℕ) → 1 * m ≡ m
    one_times m = omega arith

    positive : (m : ℕ) → 0 < m → not (nat_eq m 0) ≡ true
    positive m some = ap not (false_from_ne_true (m == 0) (λ e. let none = (Decides-eqb m 0).0 e in omega arith))

-- the mask 2 tests the second bit
pub has_bit-mask : (n : ℕ) → not (nat_eq (bit_and n 2) 0) ≡ has_bit n 1
has_bit-mask n = has_bit-masked n 1

-- the low bit moved up and the second moved down are the reversed directions
pub reversed-by_shifts : (n : ℕ) → bit_or (bit_and n 1 * 2 % 256) (bit_and n 2 / 2) ≡ reversed_directions n
reversed-by_shifts n =
    ap₂ (λ low high. bit_or (low * 2 % 256) (high / 2)) (and_pow n 0) (and_pow n 1)
    ∙ by_bits (λ low high. bit_or (low * 1 * 2 % 256) (high * 2 / 2) ≡ 2 * low + high) n 0 n 1 refl refl refl refl
