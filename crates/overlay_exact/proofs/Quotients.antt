-- Two fractions compare as their quotients. Where these are equal they compare as what is left.
use Rattle.std.proofs.Common.{◌≡◌, ◌≢◌, ℕ, ◌+◌, ◌*◌, ◌/◌, ◌%◌, ◌<◌, ◌≤◌, refl, sym, subst, arith}
use Rattle.std.proofs.Common.{mul-le-mul}
use Rattle.std.proofs.Math.Nat.{mod-add-div, mod-lt}
use Rattle.std.proofs.lemmas.Cmp.{ranked}
use Rattle.std.specs.Cmp.{nat_cmp_is}
use Rattle.std.specs.Ordering.{MatchOrdering, nat_cmp}
use Rattle.std.specs.declared.cmp.Ordering.{Ordering}
use Rattle.std.specs.declared.cmp.Ordering.TheVariants.{Less, Equal, Greater}

-- the fraction with the smaller quotient is smaller
smaller_quotient : (q r d s t c : ℕ) → r < d → 0 < c → q < s → ((r + d * q) * c) < ((t + c * s) * d)
smaller_quotient q r d s t c rest positive less =
    let whole : (q + 1) * (d * c) ≤ s * (d * c) = mul-le-mul (omega arith) (omega arith) in
    let left : (r + 1) * c ≤ d * c = mul-le-mul (omega arith) (omega arith) in
    omega arith

-- with equal quotients, what is left of the products differs as the products do
module _ (q r d t c : ℕ) where
  same_quotient : (o : Ordering) → MatchOrdering o (r * c < t * d) (r * c ≡ t * d) (t * d < r * c) →
      MatchOrdering o ((r + d * q) * c < (t + c * q) * d) ((r + d * q) * c ≡ (t + c * q) * d) ((t + c * q) * d < (r + d
      * q) * c)
  same_quotient Less m = let less : r * c < t * d = m in omega arith
  same_quotient Equal m = let same : r * c ≡ t * d = m in omega arith
  same_quotient Greater m = let more : t * d < r * c = m in omega arith

module _ (n d m c : ℕ) (divides : 0 < d) (divides_other : 0 < c) where
  -- the dividends by quotients and rests
  first : n % d + d * (n / d) ≡ n
  first = mod-add-div n d

  second : m % c + c * (m / c) ≡ m
  second = mod-add-div m c

  -- quotients that differ tell the order
  pub by_quotients : (o : Ordering) → o ≡ nat_cmp (n / d) (m / c) → o ≢ Equal → o ≡ nat_cmp (n * c) (m * d)
  by_quotients o compared differ = nat_cmp_is (n * c) (m * d) o (by o differ (ranked (n / d) (m / c) o compared))
    where
      by : (p : Ordering) → p ≢ Equal → MatchOrdering p (n / d < m / c) (n / d ≡ m / c) (m / c < n / d) →
          MatchOrdering p (n * c < m * d) (n * c ≡ m * d) (m * d < n * c)
      by Less _ less = subst (λ k. k * c < m * d) first (subst (λ k. (n % d + d * (n / d)) * c < k * d) second
          (smaller_quotient (n / d) (n % d) d (m / c) (m % c) c (mod-lt n divides) divides_other less))
      by Equal n _ = absurd (n refl)
      by Greater _ less = subst (λ k. k * d < n * c) second (subst (λ k. (m % c + c * (m / c)) * d < k * c) first
          (smaller_quotient (m / c) (m % c) c (n / d) (n % d) d (mod-lt m divides_other) divides less))

  -- and where they are equal, the rests
  pub by_rests : (o : Ordering) → Equal ≡ nat_cmp (n / d) (m / c) → o ≡ nat_cmp (n % d * c) (m % c * d) →
      o ≡ nat_cmp (n * c) (m * d)
  by_rests o same compared = nat_cmp_is (n * c) (m * d) o
      (subst (λ k. MatchOrdering o (k * c < m * d) (k * c ≡ m * d) (m * d < k * c)) first
      (subst (λ k. MatchOrdering o ((n % d + d * (n / d)) * c < k * d) ((n % d + d * (n / d)) * c ≡ k * d) (k * d <
      (n % d + d * (n / d)) * c)) whole (same_quotient (n / d) (n % d) d (m % c) c o
      (ranked (n % d * c) (m % c * d) o compared))))
    where
      quotients : n / d ≡ m / c
      quotients = ranked (n / d) (m / c) Equal same

      whole : m % c + c * (n / d) ≡ m
      whole = subst (λ k. m % c + c * k ≡ m) (sym quotients) second
