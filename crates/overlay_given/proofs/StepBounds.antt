-- Steps are small numbers, and so counts taken as often are within a bound.
use Rattle.std.proofs.Common.{◌≡◌, ℕ, ◌+◌, Bool, true, false, ℤ, pos, negsuc, ◌+ℤ◌, ◌-ℤ◌, ◌*ℤ◌, sym, subst}
use Rattle.std.proofs.Common.{ap, ◌∙◌, arith}
use Rattle.std.proofs.Common.{FitsSigned, to_z, of_z, lit<}
use Rattle.std.proofs.lemmas.Int.{ints, by_lt_z}
use Rattle.overlay_geom.proofs.Signs.{linear}
use Rattle.overlay_geom.specs.Numbers.{Within}
use Rattle.overlay_geom.specs.Plane.{Edge}
use Rattle.overlay_geom.proofs.Identities.{solve, number, ◌⊕◌, ◌⊗◌, ◌⊖◌, ◌≗◌}
use Rattle.overlay_geom.proofs.Widths.{Exact-times, Exact-widened}
use Rattle.overlay_plane.specs.Regions.{one_if}
use Rattle.overlay_given.specs.Beside.{IsNear}
use Rattle.overlay_given.specs.Steps.{below_by, above_by}
use Rattle.overlay_given.specs.declared.beside.Beside.{Beside}
use Rattle.overlay_given.specs.declared.steps.Stop.{Stop}
use Rattle.overlay_given.specs.declared.steps.Stop.TheVariants.{First, Later}
use mir.Syntax.{w32, w128}

-- a sum and a difference of tests
sum_of_tests : (s t : Bool) → Within 2 (one_if s +ℤ one_if t)
sum_of_tests true true = record { low = omega (arith, ints); high = omega (arith, ints) }
sum_of_tests true false = record { low = omega (arith, ints); high = omega (arith, ints) }
sum_of_tests false true = record { low = omega (arith, ints); high = omega (arith, ints) }
sum_of_tests false false = record { low = omega (arith, ints); high = omega (arith, ints) }

difference_of_tests : (s t : Bool) → Within 2 (one_if s -ℤ one_if t)
difference_of_tests true true = record { low = omega (arith, ints); high = omega (arith, ints) }
difference_of_tests true false = record { low = omega (arith, ints); high = omega (arith, ints) }
difference_of_tests false true = record { low = omega (arith, ints); high = omega (arith, ints) }
difference_of_tests false false = record { low = omega (arith, ints); high = omega (arith, ints) }

one_test : (s : Bool) → Within 2 (one_if s)
one_test true = record { low = omega (arith, ints); high = omega (arith, ints) }
one_test false = record { low = omega (arith, ints); high = omega (arith, ints) }

pub below_small : (at : Stop) (e f : Edge) (z : ℤ) → z ≡ below_by at e f → Within 2 z
below_small First e f z is = subst (Within 2) (sym is) (one_test _)
below_small Later e f z is = subst (Within 2) (sym is) (difference_of_tests _ _)

pub above_small : (at : Stop) (e f : Edge) (z : ℤ) → z ≡ above_by at e f → Within 2 z
above_small First e f z is = subst (Within 2) (sym is) (sum_of_tests _ _)
above_small Later e f z is = subst (Within 2) (sym is) (difference_of_tests _ _)

-- a number taken at most twice
pub times_small : (n : ℕ) (c s : ℤ) → Within n c → Within 2 s → Within (n + n) (c *ℤ s)
times_small n c s near small = by_five s small
    (λ is. subst (Within (n + n)) (sym (ap (λ z. c *ℤ z) is
    ∙ solve 1 (λ c. c ⊗ number (negsuc 1) ≗ number (pos 0) ⊖ (c ⊕ c)) tt c))
    (record { low = omega (arith, ints); high = omega (arith, ints) }))
    (λ is. subst (Within (n + n)) (sym (ap (λ z. c *ℤ z) is
    ∙ solve 1 (λ c. c ⊗ number (negsuc 0) ≗ number (pos 0) ⊖ c) tt c))
    (record { low = omega (arith, ints); high = omega (arith, ints) }))
    (λ is. subst (Within (n + n)) (sym (ap (λ z. c *ℤ z) is
    ∙ solve 1 (λ c. c ⊗ number (pos 0) ≗ number (pos 0)) tt c))
    (record { low = omega (arith, ints); high = omega (arith, ints) }))
    (λ is. subst (Within (n + n)) (sym (ap (λ z. c *ℤ z) is ∙ solve 1 (λ c. c ⊗ number (pos 1) ≗ c) tt c))
    (record { low = omega (arith, ints); high = omega (arith, ints) }))
    (λ is. subst (Within (n + n)) (sym (ap (λ z. c *ℤ z) is ∙ solve 1 (λ c. c ⊗ number (pos 2) ≗ c ⊕ c) tt c))
    (record { low = omega (arith, ints); high = omega (arith, ints) }))
  where
    by_five : {P : Type 0} (s : ℤ) → Within 2 s → (s ≡ negsuc 1 → P) → (s ≡ negsuc 0 → P) → (s ≡ pos 0 → P) →
        (s ≡ pos 1 → P) → (s ≡ pos 2 → P) → P
    by_five s small a b c d e = by_lt_z s (negsuc 0)
        (λ less. a (let low = small.low in omega (linear, low, less)))
        (λ more. by_lt_z s (pos 0) (λ less. b (omega (linear, more, less)))
        (λ more. by_lt_z s (pos 1) (λ less. c (omega (linear, more, less)))
        (λ more. by_lt_z s (pos 2) (λ less. d (omega (linear, more, less)))
        (λ more. e (let high = small.high in omega (linear, high, more))))))

-- ---- products

-- a number of 32 bits is within 2^31
pub within_32 : (z : ℤ) → FitsSigned w32 z → Within 2147483648 z
within_32 (pos n) fits = record { low = omega (arith, ints); high = omega (arith, ints) }
within_32 (negsuc n) fits = record { low = omega (arith, ints); high = omega (arith, ints) }

-- the product of two such numbers, each widened
pub widened_times : (a b x y : ℤ) → FitsSigned w32 a → FitsSigned w32 b → x ≡ to_z w32 (of_z w32 a) →
    y ≡ to_z w32 (of_z w32 b) →
    to_z w128 (of_z w128 (to_z w128 (of_z w128 x) *ℤ to_z w128 (of_z w128 y))) ≡ a *ℤ b
widened_times a b x y a_fits b_fits x_is y_is =
    (Exact-times w128 2147483648 a b _ _ (lit< tt)
    (Exact-widened w32 w128 2147483648 a x (lit< tt) a_fits (within_32 a a_fits) x_is)
    (Exact-widened w32 w128 2147483648 b y (lit< tt) b_fits (within_32 b b_fits) y_is)).same

-- four counts taken as often as the steps tell
pub near_counts : (s c below above : ℤ) (b : Beside) → FitsSigned w32 s → FitsSigned w32 c → Within 2 below →
    Within 2 above → b.subj_below ≡ s *ℤ below → b.subj_above ≡ s *ℤ above → b.clip_below ≡ c *ℤ below →
    b.clip_above ≡ c *ℤ above → IsNear 4294967296 b
near_counts s c below above b s_fits c_fits small_below small_above sb sa cb ca = record {
  subj_below = subst (Within 4294967296) (sym sb) (times_small 2147483648 s below (within_32 s s_fits) small_below);
  subj_above = subst (Within 4294967296) (sym sa) (times_small 2147483648 s above (within_32 s s_fits) small_above);
  clip_below = subst (Within 4294967296) (sym cb) (times_small 2147483648 c below (within_32 c c_fits) small_below);
  clip_above = subst (Within 4294967296) (sym ca) (times_small 2147483648 c above (within_32 c c_fits) small_above);
}
