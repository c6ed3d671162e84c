-- The tests whether a part is that of an end of its edge.
use Rattle.std.proofs.Common.{◌≡◌, ◌↔◌, Bool, true, ℤ, pos, ◌*ℤ◌, ap, sym, ◌∙◌}
use Rattle.std.specs.Ordering.{int_cmp, is_eq}
use Rattle.std.specs.declared.cmp.Ordering.{Ordering}
use Rattle.std.proofs.lemmas.Bool.Decides.{Decides-int_eq}
use Rattle.overlay_geom.proofs.Comparisons.{same_from_compared}
use Rattle.overlay_geom.proofs.Identities.{solve, number, ◌⊗◌, ◌≗◌}
use Rattle.overlay_exact.specs.Parts.{Fraction, start_part, end_part, AreEqual}

-- a comparison of the program finds two numbers equal exactly where they are
equal_where_compared : (x y : ℤ) (o : Ordering) (r : Bool) → o ≡ int_cmp x y → r ≡ is_eq o →
    (r ≡ true) ↔ (x ≡ y)
equal_where_compared x y o r order answer = (
  same_from_compared x y o r order answer,
  λ same. answer ∙ ap is_eq order ∙ (Decides-int_eq x y).1 same,
)

-- products with the numbers of these parts
times_one : (z : ℤ) → z *ℤ pos 1 ≡ z
times_one = solve 1 (λ z. z ⊗ number (pos 1) ≗ z) tt

none_of : (z : ℤ) → pos 0 *ℤ z ≡ pos 0
none_of = solve 1 (λ z. number (pos 0) ⊗ z ≗ number (pos 0)) tt

one_of : (z : ℤ) → pos 1 *ℤ z ≡ z
one_of = solve 1 (λ z. number (pos 1) ⊗ z ≗ z) tt

module _ (s : Fraction) (o : Ordering) (r : Bool) where
  -- by the numerator alone
  pub start_where_none : o ≡ int_cmp s.n (pos 0) → r ≡ is_eq o → (r ≡ true) ↔ AreEqual s start_part
  start_where_none order answer =
      let tells = equal_where_compared s.n (pos 0) o r order answer in (
        λ is. times_one s.n ∙ tells.0 is ∙ sym (none_of s.d),
        λ equal. tells.1 (sym (times_one s.n) ∙ equal ∙ none_of s.d),
      )

  -- by both numbers
  pub end_where_whole : o ≡ int_cmp s.n s.d → r ≡ is_eq o → (r ≡ true) ↔ AreEqual s end_part
  end_where_whole order answer =
      let tells = equal_where_compared s.n s.d o r order answer in (
        λ is. times_one s.n ∙ tells.0 is ∙ sym (one_of s.d),
        λ equal. tells.1 (sym (times_one s.n) ∙ equal ∙ one_of s.d),
      )
