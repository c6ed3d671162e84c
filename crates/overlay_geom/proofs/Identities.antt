-- Identities of polynomials over the whole numbers, proved by computing. Both sides are multiplied out to sums of
-- coefficients times products of unknowns. Sides with equal sums are equal everywhere.
use Rattle.std.proofs.Common.{◌≡◌, ℕ, zero, suc, Bool, true, false, ◌&&◌, T, eqb, ltb, ℤ, pos, negsuc, ◌+ℤ◌, ◌-ℤ◌, ◌*ℤ◌}
use Rattle.std.proofs.Common.{neg_ℤ, List, [], ◌∷◌, refl, sym, ap, ap₂, ◌∙◌, eqb→eq, subst, ltb-false, arith}
use Rattle.std.proofs.lemmas.Int.{ints}
use lib.IntN.{*ℤ_comm, zero-*ℤ, +ℤ_idl, +ℤ_idr, +ℤ_assoc}
use Rattle.overlay_geom.proofs.Products.{mul-add, add-mul, mul_assoc, neg_ℤ-mul, mul-neg_ℤ}

-- a polynomial as it is written
pub data Expr : Type 0 where
  unknown : ℕ → Expr
  number : ℤ → Expr
  plus : Expr → Expr → Expr
  times : Expr → Expr → Expr
  minus : Expr → Expr

infixl 6 ◌⊕◌
infixl 6 ◌⊖◌
infixl 7 ◌⊗◌
infix 4 ◌≗◌
infixr 8 ⊝◌
-- the sum of two
abbrev pub ◌⊕◌ : Expr → Expr → Expr
a ⊕ b = plus a b

-- their product
abbrev pub ◌⊗◌ : Expr → Expr → Expr
a ⊗ b = times a b

-- one with the other sign
abbrev pub ⊝◌ : Expr → Expr
⊝ a = minus a

-- the difference of two
abbrev pub ◌⊖◌ : Expr → Expr → Expr
a ⊖ b = plus a (minus b)

-- the two sides of an identity
abbrev pub ◌≗◌ : Expr → Expr → Expr × Expr
a ≗ b = (a, b)

-- the value of the unknown at a place, 0 past the end
abbrev pub value_at : List ℤ → ℕ → ℤ
value_at [] i = pos 0
value_at (x ∷ xs) zero = x
value_at (x ∷ xs) (suc i) = value_at xs i

-- the value of a polynomial as it is written, where the unknowns have these values
abbrev pub eval : List ℤ → Expr → ℤ
eval xs (unknown i) = value_at xs i
eval xs (number z) = z
eval xs (plus a b) = eval xs a +ℤ eval xs b
eval xs (times a b) = eval xs a *ℤ eval xs b
eval xs (minus a) = neg_ℤ (eval xs a)

-- ---- multiplied out

-- a sum of coefficients times products of unknowns, in order
pub data Poly : Type 0 where
  none : Poly
  more : ℤ → List ℕ → Poly → Poly

-- the product of the unknowns at these places
abbrev pub product : List ℤ → List ℕ → ℤ
product xs [] = pos 1
product xs (i ∷ is) = value_at xs i *ℤ product xs is

-- the value of a sum of terms
abbrev pub value : List ℤ → Poly → ℤ
value xs none = pos 0
value xs (more c is p) = c *ℤ product xs is +ℤ value xs p

-- how one product of unknowns stands to another: before it, the same, or after it
pub data Place : Type 0 where
  before same after : Place

-- by the first two unknowns that differ
abbrev pub place_by : Bool → Bool → Place → Place
place_by true _ _ = before
place_by false true _ = after
place_by false false rest = rest

-- where one product of unknowns stands to another
abbrev pub place : List ℕ → List ℕ → Place
place [] [] = same
place [] (j ∷ js) = before
place (i ∷ is) [] = after
place (i ∷ is) (j ∷ js) = place_by (ltb i j) (ltb j i) (place is js)

-- the unknown as one more factor
abbrev pub with_factor : ℕ → List ℕ → List ℕ
with_factor i [] = i ∷ []
with_factor i (j ∷ js) = elim (ltb j i) [ true ↦ j ∷ with_factor i js | false ↦ i ∷ j ∷ js ]

-- the term as one more summand
abbrev pub with_term : ℤ → List ℕ → Poly → Poly
with_term c is none = more c is none
with_term c is (more d js p) = elim (place is js) [
  | before ↦ more c is (more d js p)
  | same ↦ more (c +ℤ d) js p
  | after
      ↦ more d js (with_term c is p)
]

-- f applied to each term in turn
abbrev pub over_terms : (ℤ → List ℕ → Poly → Poly) → Poly → Poly → Poly
over_terms f none p = p
over_terms f (more c is q) p = f c is (over_terms f q p)

-- p, and the term times the expression
abbrev pub spread : Expr → ℤ → List ℕ → Poly → Poly
spread (unknown i) c is p = with_term c (with_factor i is) p
spread (number z) c is p = with_term (c *ℤ z) is p
spread (plus a b) c is p = spread a c is (spread b c is p)
spread (times a b) c is p = over_terms (spread b) (spread a c is none) p
spread (minus a) c is p = spread a (neg_ℤ c) is p

-- a polynomial multiplied out
abbrev pub norm : Expr → Poly
norm e = spread e (pos 1) [] none

-- whether the number is 0
abbrev pub is_zero : ℤ → Bool
is_zero (pos n) = eqb n 0
is_zero (negsuc n) = false

-- every coefficient is 0
abbrev pub vanishes : Poly → Bool
vanishes none = true
vanishes (more c is p) = is_zero c && vanishes p

-- ---- multiplying out changes no value

-- the last two of three summands exchanged
crossed : (a b c : ℤ) → a +ℤ (b +ℤ c) ≡ b +ℤ (a +ℤ c)
crossed a b c = omega (arith, ints)

-- one more factor multiplies the product
product-with_factor : (xs : List ℤ) (i : ℕ) (is : List ℕ) →
    product xs (with_factor i is) ≡ value_at xs i *ℤ product xs is
product-with_factor xs i [] = refl
product-with_factor xs i (j ∷ js) = by (ltb j i) (product-with_factor xs i js)
  where
    by : (t : Bool) → product xs (with_factor i js) ≡ value_at xs i *ℤ product xs js →
        product xs (elim t [ true ↦ j ∷ with_factor i js | false ↦ i ∷ j ∷ js ]) ≡ value_at xs i *ℤ
        (value_at xs j *ℤ product xs js)
    by true e = ap (λ z. value_at xs j *ℤ z) e ∙ sym (mul_assoc (value_at xs j) (value_at xs i) (product xs js))
        ∙ ap (λ z. z *ℤ product xs js) (*ℤ_comm (value_at xs j) (value_at xs i))
        ∙ mul_assoc (value_at xs i) (value_at xs j) (product xs js)
    by false e = refl

-- products at one place are one list of unknowns
same_products : (is js : List ℕ) → place is js ≡ same → is ≡ js
same_products [] [] e = refl
same_products [] (j ∷ js) e = absurd (grind (arith, e))
same_products (i ∷ is) [] e = absurd (grind (arith, e))
same_products (i ∷ is) (j ∷ js) e = by (ltb i j) (ltb j i) refl refl e (same_products is js)
  where
    by : (s t : Bool) → ltb i j ≡ s → ltb j i ≡ t → place_by s t (place is js) ≡ same → (place is js ≡ same → is ≡ js) →
        i ∷ is ≡ j ∷ js
    by true t p q r f = absurd (grind (arith, r))
    by false true p q r f = absurd (grind (arith, r))
    by false false p q r f = ap₂ (λ k ks. k ∷ ks) (omega (arith, ltb-false i j p, ltb-false j i q)) (f r)

-- one more term adds its value
value-with_term : (xs : List ℤ) (c : ℤ) (is : List ℕ) (p : Poly) →
    value xs (with_term c is p) ≡ c *ℤ product xs is +ℤ value xs p
value-with_term xs c is none = refl
value-with_term xs c is (more d js p) = by (place is js) refl (value-with_term xs c is p)
  where
    by : (k : Place) → place is js ≡ k → value xs (with_term c is p) ≡ c *ℤ product xs is +ℤ value xs p →
        value xs (elim k [
          | before ↦ more c is (more d js p)
          | same ↦ more (c +ℤ d) js p
          | after ↦ more d js (with_term c is p)
        ]) ≡ c *ℤ product xs is +ℤ (d *ℤ product xs js +ℤ value xs p)
    by before e q = refl
    by same e q =
        let one = ap (λ ks. c *ℤ product xs ks) (same_products is js e) in
        let both = add-mul c d (product xs js) in
        omega (arith, ints)
    by after e q = ap (λ z. d *ℤ product xs js +ℤ z) q ∙ crossed (d *ℤ product xs js) (c *ℤ product xs is) (value xs p)

-- f adds to a polynomial the term times x
abbrev Multiplies : List ℤ → (ℤ → List ℕ → Poly → Poly) → ℤ → Type 0
Multiplies xs f x = (c : ℤ) (is : List ℕ) (p : Poly) → value xs (f c is p) ≡ (c *ℤ product xs is) *ℤ x +ℤ value xs p

-- where f multiplies by x, so does applying it to each term
value-over_terms : (xs : List ℤ) (f : ℤ → List ℕ → Poly → Poly) (x : ℤ) → Multiplies xs f x →
    (q p : Poly) → value xs (over_terms f q p) ≡ value xs q *ℤ x +ℤ value xs p
value-over_terms xs f x m none p = sym (ap (λ z. z +ℤ value xs p) (zero-*ℤ x) ∙ +ℤ_idl (value xs p))
value-over_terms xs f x m (more c is q) p =
    let first = m c is (over_terms f q p) in
    let rest = value-over_terms xs f x m q p in
    let both = add-mul (c *ℤ product xs is) (value xs q) x in
    linear_ends first rest both
  where
    linear_ends : value xs (f c is (over_terms f q p)) ≡ (c *ℤ product xs is) *ℤ x +ℤ value xs (over_terms f q p) →
        value xs (over_terms f q p) ≡ value xs q *ℤ x +ℤ value xs p →
        (c *ℤ product xs is +ℤ value xs q) *ℤ x ≡ (c *ℤ product xs is) *ℤ x +ℤ value xs q *ℤ x →
        value xs (f c is (over_terms f q p)) ≡ (c *ℤ product xs is +ℤ value xs q) *ℤ x +ℤ value xs p
    linear_ends u v w = u ∙ ap (λ z. (c *ℤ product xs is) *ℤ x +ℤ z) v
        ∙ sym (+ℤ_assoc ((c *ℤ product xs is) *ℤ x) (value xs q *ℤ x) (value xs p)) ∙ ap (λ z. z +ℤ value xs p) (sym w)

-- p, and the term times the expression
value-spread : (xs : List ℤ) (e : Expr) → Multiplies xs (spread e) (eval xs e)
value-spread xs (unknown i) c is p = value-with_term xs c (with_factor i is) p
    ∙ ap (λ z. z +ℤ value xs p) (ap (λ z. c *ℤ z) (product-with_factor xs i is
    ∙ *ℤ_comm (value_at xs i) (product xs is)) ∙ sym (mul_assoc c (product xs is) (value_at xs i)))
value-spread xs (number z) c is p = value-with_term xs (c *ℤ z) is p
    ∙ ap (λ y. y +ℤ value xs p) (mul_assoc c z (product xs is) ∙ ap (λ y. c *ℤ y) (*ℤ_comm z (product xs is))
    ∙ sym (mul_assoc c (product xs is) z))
value-spread xs (plus a b) c is p = value-spread xs a c is (spread b c is p)
    ∙ ap (λ z. (c *ℤ product xs is) *ℤ eval xs a +ℤ z) (value-spread xs b c is p)
    ∙ sym (+ℤ_assoc ((c *ℤ product xs is) *ℤ eval xs a) ((c *ℤ product xs is) *ℤ eval xs b) (value xs p))
    ∙ ap (λ z. z +ℤ value xs p) (sym (mul-add (c *ℤ product xs is) (eval xs a) (eval xs b)))
value-spread xs (times a b) c is p = value-over_terms xs (spread b) (eval xs b) (value-spread xs b) (spread a c is none)
    p ∙ ap (λ z. z +ℤ value xs p) (ap (λ z. z *ℤ eval xs b) (value-spread xs a c is none
    ∙ +ℤ_idr ((c *ℤ product xs is) *ℤ eval xs a)) ∙ mul_assoc (c *ℤ product xs is) (eval xs a) (eval xs b))
value-spread xs (minus a) c is p = value-spread xs a (neg_ℤ c) is p
    ∙ ap (λ z. z +ℤ value xs p) (ap (λ z. z *ℤ eval xs a) (neg_ℤ-mul c (product xs is))
    ∙ neg_ℤ-mul (c *ℤ product xs is) (eval xs a) ∙ sym (mul-neg_ℤ (c *ℤ product xs is) (eval xs a)))

-- multiplying out changes no value
value-norm : (xs : List ℤ) (e : Expr) → value xs (norm e) ≡ eval xs e
value-norm xs e = value-spread xs e (pos 1) [] none ∙ +ℤ_idr ((pos 1 *ℤ pos 1) *ℤ eval xs e) ∙ times_one (eval xs e)
  where
    times_one : (a : ℤ) → (pos 1 *ℤ pos 1) *ℤ a ≡ a
    times_one a = omega (arith, ints)

-- a number that passes the test is 0
is_zero-zero : (z : ℤ) → T (is_zero z) → z ≡ pos 0
is_zero-zero (pos n) t = ap pos (eqb→eq n 0 t)
is_zero-zero (negsuc n) t = absurd t

-- a sum with all coefficients 0 is 0
zero-value : (xs : List ℤ) (p : Poly) → T (vanishes p) → value xs p ≡ pos 0
zero-value xs none t = refl
zero-value xs (more c is p) t = by (is_zero c) refl t (zero-value xs p)
  where
    by : (k : Bool) → is_zero c ≡ k → T (k && vanishes p) → (T (vanishes p) → value xs p ≡ pos 0) →
        c *ℤ product xs is +ℤ value xs p ≡ pos 0
    by true e u f = ap₂ (λ y z. y +ℤ z) (ap (λ y. y *ℤ product xs is) (is_zero-zero c (subst T (sym e) tt))
        ∙ zero-*ℤ (product xs is)) (f u)
    by false e u f = absurd u

-- ---- the tactic

-- an identity in n unknowns
abbrev pub Sides : ℕ → Type 0
Sides zero = Expr × Expr
Sides (suc n) = Expr → Sides n

-- the two sides, with each unknown at its place
abbrev pub sides : (n : ℕ) → Sides n → Expr × Expr
sides zero s = s
sides (suc n) s = sides n (s (unknown n))

-- the two sides are equal at all values of the unknowns
abbrev pub Same : ℕ → List ℤ → Expr × Expr → Type 0
Same zero xs s = eval xs s.0 ≡ eval xs s.1
Same (suc n) xs s = (x : ℤ) → Same n (x ∷ xs) s

-- two sides whose difference, multiplied out, vanishes are equal at all values
same_everywhere : (n : ℕ) (xs : List ℤ) (s : Expr × Expr) → T (vanishes (norm (s.0 ⊖ s.1))) → Same n xs s
same_everywhere zero xs s t =
    let none_left : eval xs s.0 -ℤ eval xs s.1 ≡ pos 0 = sym (value-norm xs (s.0 ⊖ s.1))
    ∙ zero-value xs (norm (s.0 ⊖ s.1)) t in
    equal (eval xs s.0) (eval xs s.1) none_left
  where
    equal : (a b : ℤ) → a -ℤ b ≡ pos 0 → a ≡ b
    equal a b e = omega (arith, ints)
same_everywhere (suc n) xs s t = λ x. same_everywhere n (x ∷ xs) s t

-- an identity holds if its two sides, multiplied out, are one sum; the last argument is tt
pub solve : (n : ℕ) (s : Sides n) → T (vanishes (norm ((sides n s).0 ⊖ (sides n s).1))) → Same n [] (sides n s)
solve n s t = same_everywhere n [] (sides n s) t
