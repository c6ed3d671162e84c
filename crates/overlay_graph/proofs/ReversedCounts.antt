-- A count of 32 bits, and the count with the other sign, in 64 bits.
use Rattle.std.proofs.Common.{◌≡◌, ◌<◌, ℤ, pos, negsuc, neg_ℤ, ◌-ℤ◌, to_z, of_z, w32, w64, FitsSigned, lit<, sym, ap}
use Rattle.std.proofs.Common.{◌∙◌, subst, arith}
use Rattle.std.proofs.lemmas.Int.{ints, to_z-of_z}
use lib.Signed.{mag}
use Rattle.overlay_geom.specs.Numbers.{Within}
use Rattle.overlay_geom.proofs.Widths.{Within-fits}

-- a number of 32 bits is near 0
near_by_width : (z : ℤ) → mag z < 2147483648 → Within 2147483648 z
near_by_width (pos n) small = record { low = omega (arith, ints); high = omega (arith, ints) }
near_by_width (negsuc n) small = record { low = omega (arith, ints); high = omega (arith, ints) }

opposite : (z : ℤ) → pos 0 -ℤ z ≡ neg_ℤ z
opposite z = omega (arith, ints)

module _ (z r : ℤ) (small : mag z < 2147483648) (is : r ≡ to_z w32 (of_z w32 z)) where
  near : Within 2147483648 z
  near = near_by_width z small

  -- the count is the same in 64 bits
  same : r ≡ z
  same = is ∙ to_z-of_z w32 z (record { sfits = small })

  pub widened : to_z w64 (of_z w64 r) ≡ z
  widened = to_z-of_z w64 r (subst (FitsSigned w64) (sym same) (Within-fits w64 2147483648 z (lit< tt) near)) ∙ same

  opposite_fits : FitsSigned w64 (pos 0 -ℤ z)
  opposite_fits = Within-fits w64 2147483648 (pos 0 -ℤ z) (lit< tt) (let n = near in
      record { low = omega (arith, ints); high = omega (arith, ints) })

  -- the count may be negated
  pub reversed_fits : FitsSigned w64 (pos 0 -ℤ to_z w64 (of_z w64 r))
  reversed_fits = subst (λ v. FitsSigned w64 (pos 0 -ℤ v)) (sym widened) opposite_fits

  pub reversed_is : to_z w64 (of_z w64 (pos 0 -ℤ to_z w64 (of_z w64 r))) ≡ neg_ℤ z
  reversed_is = to_z-of_z w64 (pos 0 -ℤ to_z w64 (of_z w64 r)) reversed_fits ∙ ap (λ v. pos 0 -ℤ v) widened ∙ opposite z
