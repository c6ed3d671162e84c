-- Products of two numbers of a signed type, computed at twice the width or from their absolute values, are exact.
use Rattle.std.proofs.Common.{◌≡◌, ℕ, ◌*◌, ◌^◌, ◌<◌, ◌≤◌, ℤ, pos, negsuc, ◌*ℤ◌, ◌<ℤ◌, ◌≤ℤ◌, arith}
use Rattle.std.proofs.Common.{FitsSigned, to_z, of_z}
use Rattle.std.proofs.lemmas.Cmp.{ranked}
use Rattle.std.proofs.lemmas.Int.{ints}
use Rattle.std.specs.Cmp.{int_cmp_is}
use Rattle.std.specs.Int.RustNames.{unsigned_abs}
use Rattle.std.specs.Ordering.{MatchOrdering, nat_cmp, int_cmp}
use Rattle.std.specs.declared.cmp.Ordering.{Ordering}
use Rattle.std.specs.declared.cmp.Ordering.TheVariants.{Less, Equal, Greater}
use Rattle.overlay_geom.specs.Numbers.{Within}
use Rattle.overlay_geom.proofs.Widths.{Exact-widened, Exact-times}
use mir.Syntax.{Width}
use mir.Val.{hbits}

-- a number of a signed type that is not negative
pub within_type : (w : Width) (m : ℕ) (z : ℤ) → 2 ^ hbits w ≤ m → pos 0 ≤ℤ z → FitsSigned w z → Within m z
within_type w m (pos n) room nonneg fits =
    let small : n < 2 ^ hbits w = fits.sfits in
    record { low = omega (arith, ints); high = omega (arith, ints) }
within_type w m (negsuc n) room nonneg fits = absurd (omega (arith, ints))

-- the product of two such numbers, each widened
pub widened_product : (narrow wide : Width) (m : ℕ) (a b x y : ℤ) → 2 ^ hbits narrow ≤ m → m < 2 ^ hbits wide →
    m * m < 2 ^ hbits wide → pos 0 ≤ℤ a → pos 0 ≤ℤ b → FitsSigned narrow a → FitsSigned narrow b →
    x ≡ to_z narrow (of_z narrow a) → y ≡ to_z narrow (of_z narrow b) →
    to_z wide (of_z wide (to_z wide (of_z wide x) *ℤ to_z wide (of_z wide y))) ≡ a *ℤ b
widened_product narrow wide m a b x y type one room a_nonneg b_nonneg a_fits b_fits x_is y_is =
    (Exact-times wide m a b _ _ room
    (Exact-widened narrow wide m a x one a_fits (within_type narrow m a type a_nonneg a_fits) x_is)
    (Exact-widened narrow wide m b y one b_fits (within_type narrow m b type b_nonneg b_fits) y_is)).same

-- products of absolute values compare as those of the numbers, of which none is negative
pub compared_sizes : (n d m c : ℤ) (o : Ordering) → pos 0 ≤ℤ n → pos 0 ≤ℤ d → pos 0 ≤ℤ m → pos 0 ≤ℤ c →
    o ≡ nat_cmp (unsigned_abs n * unsigned_abs c) (unsigned_abs m * unsigned_abs d) →
    o ≡ int_cmp (n *ℤ c) (m *ℤ d)
compared_sizes (pos n) (pos d) (pos m) (pos c) o _ _ _ _ compared =
    int_cmp_is (pos n *ℤ pos c) (pos m *ℤ pos d) o (by o (ranked (n * c) (m * d) o compared))
  where
    by : (p : Ordering) → MatchOrdering p (n * c < m * d) (n * c ≡ m * d) (m * d < n * c) →
        MatchOrdering p ((pos n *ℤ pos c) <ℤ (pos m *ℤ pos d)) (pos n *ℤ pos c ≡ pos m *ℤ pos d) ((pos m *ℤ pos d) <ℤ
        (pos n *ℤ pos c))
    by Less r = let less : n * c < m * d = r in omega (arith, ints)
    by Equal r = let same : n * c ≡ m * d = r in omega (arith, ints)
    by Greater r = let more : m * d < n * c = r in omega (arith, ints)
compared_sizes (negsuc n) d m c o h _ _ _ compared = absurd (omega (arith, ints))
compared_sizes n (negsuc d) m c o _ h _ _ compared = absurd (omega (arith, ints))
compared_sizes n d (negsuc m) c o _ _ h _ compared = absurd (omega (arith, ints))
compared_sizes n d m (negsuc c) o _ _ _ h compared = absurd (omega (arith, ints))
