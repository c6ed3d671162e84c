-- Numbers within a limit, and the program's computations with them in a wider type.
use Rattle.std.proofs.Common.{◌≡◌, ℕ, ◌*◌, ◌<◌, ◌≤◌, ◌^◌, arith, refl, to_z, of_z, FitsSigned}
use Rattle.std.specs.Prelude.{ℤ, pos, negsuc, ◌-ℤ◌, ◌*ℤ◌}
use Rattle.std.specs.Int.RustNames.{unsigned_abs}
use Rattle.std.proofs.lemmas.Int.{ints, to_z-of_z, unsigned_abs-mul, fits_signed_from_abs}
use Rattle.std.proofs.Math.Nat.{mul-le-mul}
use Rattle.overlay_geom.specs.Numbers.{Within}
use mir.Syntax.{Width}
use mir.Val.{hbits}

-- a number within m has an absolute value of at most m
pub abs-Within : (m : ℕ) (z : ℤ) → Within m z → unsigned_abs z ≤ m
abs-Within m (pos n) h = omega (arith, ints)
abs-Within m (negsuc n) h = omega (arith, ints)

-- a number with an absolute value of at most m is within m
pub Within-abs : (m : ℕ) (z : ℤ) → unsigned_abs z ≤ m → Within m z
Within-abs m (pos n) h = record { low = omega (arith, ints); high = omega (arith, ints) }
Within-abs m (negsuc n) h = record { low = omega (arith, ints); high = omega (arith, ints) }

-- a number within m is within any greater limit
pub Within-weaker : (m n : ℕ) (z : ℤ) → m ≤ n → Within m z → Within n z
Within-weaker m n z le h = record { low = omega (arith, ints); high = omega (arith, ints) }

-- the difference of two numbers within m is within 2 m
pub Within-minus : (m : ℕ) (a b c : ℤ) → Within m a → Within m b → c ≡ a -ℤ b → Within (2 * m) c
Within-minus m a b c u v e = record { low = omega (arith, ints); high = omega (arith, ints) }

-- the product of two numbers within m is within m m
pub Within-times : (m : ℕ) (a b : ℤ) → Within m a → Within m b → Within (m * m) (a *ℤ b)
Within-times m a b u v =
    let product : unsigned_abs a * unsigned_abs b ≤ m * m = mul-le-mul (abs-Within m a u) (abs-Within m b v) in
    Within-abs (m * m) (a *ℤ b) (rw unsigned_abs-mul product)

-- a number within m fits each width with room for m
pub Within-fits : (w : Width) (m : ℕ) (z : ℤ) → m < 2 ^ hbits w → Within m z → FitsSigned w z
Within-fits w m z room h = let small = abs-Within m z h in fits_signed_from_abs w z (omega arith)

-- the computed number is the number z, within m
pub record Exact (m : ℕ) (z computed : ℤ) : Type 0 where
  pub same : computed ≡ z
  pub within : Within m z

-- a number within a limit for which the width has room, read back from its bits
pub Exact-stored : (w : Width) (m : ℕ) (z computed : ℤ) → m < 2 ^ hbits w → Within m z → computed ≡ z →
    Exact m z (to_z w (of_z w computed))
Exact-stored w m z computed room h e =
    let fits : FitsSigned w z = Within-fits w m z room h in
    record { same = rw (e, to_z-of_z w z fits) refl; within = h }

-- a number widened from the width n to w
pub Exact-widened : (n w : Width) (m : ℕ) (z widened : ℤ) → m < 2 ^ hbits w → FitsSigned n z → Within m z →
    widened ≡ to_z n (of_z n z) → Exact m z (to_z w (of_z w widened))
Exact-widened n w m z widened room fits h e =
    Exact-stored w m z widened room h (rw (e, to_z-of_z n z fits) refl)

-- the product that the program computes of two widened numbers
abbrev pub product_at : Width → ℤ → ℤ → ℤ
product_at w p q = to_z w (of_z w (to_z w (of_z w p) *ℤ to_z w (of_z w q)))

-- the cross product that it computes of two vectors
abbrev pub cross_at : Width → ℤ → ℤ → ℤ → ℤ → ℤ
cross_at w p q r s = product_at w p q -ℤ product_at w r s

-- the product of two numbers
pub Exact-times : (w : Width) (m : ℕ) (a b x y : ℤ) → m * m < 2 ^ hbits w → Exact m a x → Exact m b y →
    Exact (m * m) (a *ℤ b) (to_z w (of_z w (x *ℤ y)))
Exact-times w m a b x y room u v =
    Exact-stored w (m * m) (a *ℤ b) (x *ℤ y) room (Within-times m a b u.within v.within) (rw (u.same, v.same) refl)

-- the number computed as a cross product is the cross product, and fits
pub record IsCross (w : Width) (m : ℕ) (ax ay bx by computed : ℤ) : Type 0 where
  pub fits : FitsSigned w computed
  pub exact : Exact (2 * (m * m)) (ax *ℤ by -ℤ ay *ℤ bx) (to_z w (of_z w computed))

-- the difference of two products is exact where the width has room for it
pub IsCross-minus : (w : Width) (m : ℕ) (ax ay bx by x y : ℤ) → 2 * (m * m) < 2 ^ hbits w → Exact (m * m) (ax *ℤ by) x →
    Exact (m * m) (ay *ℤ bx) y → IsCross w m ax ay bx by (x -ℤ y)
IsCross-minus w m ax ay bx by x y room u v =
    let value : x -ℤ y ≡ ax *ℤ by -ℤ ay *ℤ bx = rw (u.same, v.same) refl in
    let within = Within-minus (m * m) (ax *ℤ by) (ay *ℤ bx) (ax *ℤ by -ℤ ay *ℤ bx) u.within v.within refl in
    record {
      fits = rw value (Within-fits w (2 * (m * m)) (ax *ℤ by -ℤ ay *ℤ bx) room within);
      exact = Exact-stored w (2 * (m * m)) (ax *ℤ by -ℤ ay *ℤ bx) (x -ℤ y) room within value;
    }
