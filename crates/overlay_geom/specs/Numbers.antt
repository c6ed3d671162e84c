-- Whole numbers within a limit.
use Rattle.std.specs.Prelude.{ℕ, ℤ, pos, neg_ℤ, ◌≤ℤ◌}

-- the number is at most m away from 0
pub record Within (m : ℕ) (z : ℤ) : Type 0 where
  pub low : neg_ℤ (pos m) ≤ℤ z
  pub high : z ≤ℤ pos m

-- the greatest 64-bit coordinate in range, 2^62 - 1
abbrev pub greatest_of_64_bits : ℕ
greatest_of_64_bits = 4611686018427387903
