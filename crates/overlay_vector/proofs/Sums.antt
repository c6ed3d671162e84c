-- Sums and differences of numbers that 64 bits hold with room to spare.
use Rattle.std.proofs.Common.{◌≡◌, ◌^◌, ℤ, ◌+ℤ◌, ◌-ℤ◌, to_z, of_z, w64, FitsSigned, lit<, ap₂, ◌∙◌, arith}
use Rattle.std.proofs.lemmas.Int.{ints, to_z-of_z}
use Rattle.overlay_geom.specs.Numbers.{Within}
use Rattle.overlay_geom.proofs.Widths.{Within-fits}

module _ (x y : ℤ) (small : Within (2 ^ 31) x) where
  fits_x : FitsSigned w64 x
  fits_x = Within-fits w64 2147483648 x (lit< tt) small

  difference_within : Within (2 ^ 31) y → Within (2 ^ 32) (x -ℤ y)
  difference_within other = record { low = omega (arith, ints); high = omega (arith, ints) }

  sum_within : Within (2 ^ 32) y → Within (2 ^ 33) (x +ℤ y)
  sum_within other = record { low = omega (arith, ints); high = omega (arith, ints) }

  -- the difference that 64 bits give
  pub subtracted : Within (2 ^ 31) y → to_z w64 (of_z w64 (to_z w64 (of_z w64 x) -ℤ to_z w64 (of_z w64 y))) ≡ x -ℤ y
  subtracted other =
      ap₂ (λ u v. to_z w64 (of_z w64 (u -ℤ v))) (to_z-of_z w64 x fits_x)
      (to_z-of_z w64 y (Within-fits w64 2147483648 y (lit< tt) other))
      ∙ to_z-of_z w64 (x -ℤ y) (Within-fits w64 4294967296 (x -ℤ y) (lit< tt) (difference_within other))

  -- and the sum
  pub summed : Within (2 ^ 32) y → to_z w64 (of_z w64 (to_z w64 (of_z w64 x) +ℤ to_z w64 (of_z w64 y))) ≡ x +ℤ y
  summed other =
      ap₂ (λ u v. to_z w64 (of_z w64 (u +ℤ v))) (to_z-of_z w64 x fits_x)
      (to_z-of_z w64 y (Within-fits w64 4294967296 y (lit< tt) other))
      ∙ to_z-of_z w64 (x +ℤ y) (Within-fits w64 8589934592 (x +ℤ y) (lit< tt) (sum_within other))
