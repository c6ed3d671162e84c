-- A list in a strict order of its entries: sums over the entries before each entry, and telescoping sums.
use Rattle.std.proofs.Common.{◌≡◌, Bool, true, false, cond, ℤ, pos, ◌+ℤ◌, ◌-ℤ◌, List, [], ◌∷◌, Contains, sym, ap, ap₂}
use Rattle.std.proofs.Common.{◌∙◌}
use lib.IntN.{+ℤ_idl, +ℤ_idr, +ℤ_assoc}
use Rattle.overlay_geom.specs.Plane.{total}
use Rattle.overlay_geom.proofs.Identities.{solve, ◌⊕◌, ◌⊖◌, ◌≗◌, number}
use Rattle.overlay_plane.proofs.LaterEntries.{Each}
use Rattle.overlay_plane.proofs.Totals.{total-same, total-zero}
use Rattle.overlay_plane.proofs.InOrderLists.{Before}

module _ {X : Type 0} (lower : X → X → Bool) where
  -- the counts of the entries before e, summed
  abbrev pub total_before : (X → ℤ) → List X → X → ℤ
  total_before c ys e = total (λ f. cond (lower f e) (c f) (pos 0)) ys

  module _ (irreflexive : (x : X) → lower x x ≡ false) (asymmetric : (x y : X) → lower x y ≡ true →
      lower y x ≡ false) where
    -- nothing is before the first entry
    none_before_first : (c : X → ℤ) (y : X) (ys : List X) → ((z : X) → Contains ys z → lower y z ≡ true) →
        total_before c (y ∷ ys) y ≡ pos 0
    none_before_first c y ys first = ap₂ (λ a b. a +ℤ b) (ap (λ t. cond t (c y) (pos 0)) (irreflexive y))
        (total-zero (λ f. cond (lower f y) (c f) (pos 0)) ys
        (λ z at. ap (λ t. cond t (c z) (pos 0)) (asymmetric y z (first z at))))

    -- the entries before a later entry are the first, and those of the rest before it
    first_before_later : (c : X → ℤ) (y : X) (ys : List X) (e : X) → lower y e ≡ true →
        total_before c (y ∷ ys) e ≡ c y +ℤ total_before c ys e
    first_before_later c y ys e first = ap (λ t. cond t (c y) (pos 0) +ℤ total_before c ys e) first

    module _ (h : ℤ → ℤ → ℤ) (c d : X → ℤ) where
      -- how much h rises by the entry's two counts
      abbrev pub rise : ℤ → ℤ → X → ℤ
      rise v w e = h (v +ℤ c e) (w +ℤ d e) -ℤ h v w

      rises_on : (v w : ℤ) (ys : List X) → Each (Before lower) ys →
          total (λ e. rise (v +ℤ total_before c ys e) (w +ℤ total_before d ys e) e) ys ≡ h (v +ℤ total c ys)
          (w +ℤ total d ys) -ℤ h v w
      rises_on v w [] first = sym (ap₂ (λ p q. h p q -ℤ h v w) (+ℤ_idr v) (+ℤ_idr w)
          ∙ solve 1 (λ z. z ⊖ z ≗ number (pos 0)) tt (h v w))
      rises_on v w (y ∷ ys) first = ap₂ (λ p q. p +ℤ q) head (tail ∙ rises_on (v +ℤ c y) (w +ℤ d y) ys first.1)
          ∙ joined (h v w) (h (v +ℤ c y) (w +ℤ d y)) (h ((v +ℤ c y) +ℤ total c ys) ((w +ℤ d y) +ℤ total d ys))
          ∙ ap₂ (λ p q. h p q -ℤ h v w) (+ℤ_assoc v (c y) (total c ys)) (+ℤ_assoc w (d y) (total d ys))
        where
          joined : (a b z : ℤ) → (b -ℤ a) +ℤ (z -ℤ b) ≡ z -ℤ a
          joined = solve 3 (λ a b z. (b ⊖ a) ⊕ (z ⊖ b) ≗ z ⊖ a) tt

          head : rise (v +ℤ total_before c (y ∷ ys) y) (w +ℤ total_before d (y ∷ ys) y) y ≡ rise v w y
          head = ap₂ (λ p q. rise p q y) (ap (λ z. v +ℤ z) (none_before_first c y ys first.0) ∙ +ℤ_idr v)
              (ap (λ z. w +ℤ z) (none_before_first d y ys first.0) ∙ +ℤ_idr w)

          moved : (v : ℤ) (c : X → ℤ) (e : X) → lower y e ≡ true →
              v +ℤ total_before c (y ∷ ys) e ≡ (v +ℤ c y) +ℤ total_before c ys e
          moved v c e t = ap (λ z. v +ℤ z) (first_before_later c y ys e t)
              ∙ sym (+ℤ_assoc v (c y) (total_before c ys e))

          tail : total (λ e. rise (v +ℤ total_before c (y ∷ ys) e) (w +ℤ total_before d (y ∷ ys) e) e) ys ≡ total
              (λ e. rise ((v +ℤ c y) +ℤ total_before c ys e) ((w +ℤ d y) +ℤ total_before d ys e) e) ys
          tail = total-same (λ e. rise (v +ℤ total_before c (y ∷ ys) e) (w +ℤ total_before d (y ∷ ys) e) e)
              (λ e. rise ((v +ℤ c y) +ℤ total_before c ys e) ((w +ℤ d y) +ℤ total_before d ys e) e) ys
              (λ e at. ap₂ (λ p q. rise p q e) (moved v c e (first.0 e at)) (moved w d e (first.0 e at)))

      -- along a list that ascends, h rises from (0, 0) to the sums of the counts
      pub rises : (ys : List X) → Each (Before lower) ys →
          total (λ e. rise (total_before c ys e) (total_before d ys e) e) ys ≡ h (total c ys) (total d ys) -ℤ h
          (pos 0) (pos 0)
      rises ys first = total-same (λ e. rise (total_before c ys e) (total_before d ys e) e)
          (λ e. rise (pos 0 +ℤ total_before c ys e) (pos 0 +ℤ total_before d ys e) e) ys
          (λ e at. ap₂ (λ p q. rise p q e) (sym (+ℤ_idl (total_before c ys e))) (sym (+ℤ_idl (total_before d ys e))))
          ∙ rises_on (pos 0) (pos 0) ys first ∙ ap₂ (λ p q. h p q -ℤ h (pos 0) (pos 0)) (+ℤ_idl (total c ys))
          (+ℤ_idl (total d ys))
