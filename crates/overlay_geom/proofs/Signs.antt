-- The signs of products of whole numbers, and the sign of a factor from that of the other factor.
use lib.IntN.{*ℤ-zero}
use borrow.Author.Differences.{same_out, Apart-out, lt_out, le_out, same_in, below_in, at_most_in, sum_is_lem, neg_is}
use Rattle.std.proofs.Common.{◌≡◌, zero, suc, ◌*◌, ℤ, pos, negsuc, ◌-ℤ◌, ◌*ℤ◌, neg_ℤ, ◌<ℤ◌, ◌≤ℤ◌, ap, ◌∙◌}
use Rattle.std.proofs.Common.{arith}
use Rattle.std.proofs.lemmas.Int.{ints, by_lt_z}
use Rattle.overlay_geom.proofs.Products.{mul-add, mul-neg_ℤ}

-- for omega: linear facts of whole numbers, with each product as one unknown
pub ruleset linear = (arith, same_out, Apart-out, lt_out, le_out, same_in, below_in, at_most_in, sum_is_lem, neg_is)

-- by whether z is negative, 0 or positive
pub by_sign : {P : Type 0} (z : ℤ) → (z <ℤ pos 0 → P) → (z ≡ pos 0 → P) → (pos 0 <ℤ z → P) → P
by_sign z f g h = by_lt_z z (pos 0) f (λ ge. by_lt_z (pos 0) z h (λ le. g (omega linear)))

-- ---- the sign of a product

-- of two positive numbers
pub mul-pos : (a b : ℤ) → pos 0 <ℤ a → pos 0 <ℤ b → pos 0 <ℤ (a *ℤ b)
mul-pos (pos zero) b p q = absurd (omega linear)
mul-pos (pos (suc m)) (pos zero) p q = absurd (omega linear)
mul-pos (pos (suc m)) (pos (suc n)) p q = omega (arith, ints)
mul-pos (pos (suc m)) (negsuc n) p q = absurd (omega linear)
mul-pos (negsuc m) b p q = absurd (omega linear)

-- of a positive and a negative one
pub mul-neg : (a b : ℤ) → pos 0 <ℤ a → b <ℤ pos 0 → (a *ℤ b) <ℤ pos 0
mul-neg a b p q =
    let negated = mul-neg_ℤ a b in
    let positive = mul-pos a (neg_ℤ b) p (omega linear) in
    omega linear

-- with 0
pub mul-zero : (a b : ℤ) → b ≡ pos 0 → a *ℤ b ≡ pos 0
mul-zero a b e = ap (λ z. a *ℤ z) e ∙ *ℤ-zero a

-- of two numbers that are not negative
pub mul-nonneg : (a b : ℤ) → pos 0 ≤ℤ a → pos 0 ≤ℤ b → pos 0 ≤ℤ (a *ℤ b)
mul-nonneg (pos m) (pos n) p q = omega (arith, ints)
mul-nonneg (pos m) (negsuc n) p q = absurd (omega linear)
mul-nonneg (negsuc m) b p q = absurd (omega linear)

-- of one that is not negative and one that is not positive
pub mul-nonpos : (a b : ℤ) → pos 0 ≤ℤ a → b ≤ℤ pos 0 → (a *ℤ b) ≤ℤ pos 0
mul-nonpos a b p q =
    let negated = mul-neg_ℤ a b in
    let nonneg = mul-nonneg a (neg_ℤ b) p (omega linear) in
    omega linear

-- ---- a factor above 0 keeps the order

-- strict order
pub mul-lt : (k a b : ℤ) → pos 0 <ℤ k → a <ℤ b → (k *ℤ a) <ℤ (k *ℤ b)
mul-lt k a b p q =
    let positive = mul-pos k (b -ℤ a) p (omega linear) in
    let sum = mul-add k b (neg_ℤ a) in
    let negated = mul-neg_ℤ k a in
    omega linear

-- the other, also where it is 0
pub mul-le : (k a b : ℤ) → pos 0 ≤ℤ k → a ≤ℤ b → (k *ℤ a) ≤ℤ (k *ℤ b)
mul-le k a b p q =
    let nonneg = mul-nonneg k (b -ℤ a) p (omega linear) in
    let sum = mul-add k b (neg_ℤ a) in
    let negated = mul-neg_ℤ k a in
    omega linear

-- ---- the other factor, from a product by a number above 0

-- two numbers are in strict order where their products are
pub lt_of_mul-lt : (k a b : ℤ) → pos 0 <ℤ k → (k *ℤ a) <ℤ (k *ℤ b) → a <ℤ b
lt_of_mul-lt k a b p q = by_lt_z a b (λ lt. lt) (λ ge. absurd (against ge))
  where
    against : b ≤ℤ a → ⊥
    against ge = let le = mul-le k b a (omega linear) ge in omega linear

-- in order where those are
pub le_of_mul-le : (k a b : ℤ) → pos 0 <ℤ k → (k *ℤ a) ≤ℤ (k *ℤ b) → a ≤ℤ b
le_of_mul-le k a b p q = by_lt_z b a (λ lt. absurd (against lt)) (λ le. le)
  where
    against : b <ℤ a → ⊥
    against lt = let less = mul-lt k b a p lt in omega linear

-- the factors are equal if the products are
pub eq_of_mul-eq : (k a b : ℤ) → pos 0 <ℤ k → k *ℤ a ≡ k *ℤ b → a ≡ b
eq_of_mul-eq k a b p e =
    let low = le_of_mul-le k a b p (omega linear) in
    let high = le_of_mul-le k b a p (omega linear) in
    omega linear

-- it is positive where the product is
pub pos_of_mul-pos : (a b : ℤ) → pos 0 <ℤ a → pos 0 <ℤ (a *ℤ b) → pos 0 <ℤ b
pos_of_mul-pos a b p q = let zero_product = *ℤ-zero a in lt_of_mul-lt a (pos 0) b p (omega linear)

-- negative
pub neg_of_mul-neg : (a b : ℤ) → pos 0 <ℤ a → (a *ℤ b) <ℤ pos 0 → b <ℤ pos 0
neg_of_mul-neg a b p q = let zero_product = *ℤ-zero a in lt_of_mul-lt a b (pos 0) p (omega linear)

-- 0
pub zero_of_mul-zero : (a b : ℤ) → pos 0 <ℤ a → a *ℤ b ≡ pos 0 → b ≡ pos 0
zero_of_mul-zero a b p e = let zero_product = *ℤ-zero a in eq_of_mul-eq a b (pos 0) p (omega linear)

-- not negative
pub nonneg_of_mul-nonneg : (a b : ℤ) → pos 0 <ℤ a → pos 0 ≤ℤ (a *ℤ b) → pos 0 ≤ℤ b
nonneg_of_mul-nonneg a b p q = let zero_product = *ℤ-zero a in le_of_mul-le a (pos 0) b p (omega linear)

-- or not positive
pub nonpos_of_mul-nonpos : (a b : ℤ) → pos 0 <ℤ a → (a *ℤ b) ≤ℤ pos 0 → b ≤ℤ pos 0
nonpos_of_mul-nonpos a b p q = let zero_product = *ℤ-zero a in le_of_mul-le a b (pos 0) p (omega linear)
