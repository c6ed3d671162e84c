-- The midpoint of an edge seen from another edge: its side and its place over the span, by comparisons of whole
-- numbers.
use Rattle.std.proofs.Common.{◌≡◌, ℤ, pos, ◌+ℤ◌, ◌*ℤ◌, neg_ℤ, int_lt, int_le, ap, ap₂, sym, ◌∙◌, arith}
use Rattle.std.specs.Ordering.{is_lt, is_le, is_gt, int_cmp}
use Rattle.std.proofs.lemmas.Int.{ints}
use Rattle.overlay_geom.specs.Plane.{Edge, side, midpoint, cross_at}
use Rattle.overlay_geom.proofs.Comparisons.{is_lt-int_cmp, is_gt-int_cmp, is_le-int_cmp}
use Rattle.overlay_geom.proofs.Products.{doubled}
use Rattle.overlay_geom.proofs.Identities.{solve, number, ◌⊕◌, ◌⊗◌, ◌⊖◌, ◌≗◌}
use Rattle.overlay_geom.proofs.Cross.{crossE}

-- its side is the sum of the cross products to the two ends
pub side-midpoint : (e f : Edge) → side e (midpoint f) ≡ cross_at e.a e.b f.a +ℤ cross_at e.a e.b f.b
side-midpoint e f = solve 8 (λ ax ay bx by cx cy dx dy. (bx ⊖ ax) ⊗ ((cy ⊕ dy) ⊖ ay ⊗ number (pos 2)) ⊖ (by ⊖ ay) ⊗
    ((cx ⊕ dx) ⊖ ax ⊗ number (pos 2)) ≗ crossE ax ay bx by cx cy ⊕ crossE ax ay bx by dx dy) tt e.a.x e.a.y e.b.x e.b.y
    f.a.x f.a.y f.b.x f.b.y

-- the midpoint lies strictly to the left where the first product is above the second negated
pub is_left-midpoint : (e f : Edge) (u v w : ℤ) → u ≡ cross_at e.a e.b f.a → v ≡ cross_at e.a e.b f.b → w ≡ neg_ℤ v →
    is_gt (int_cmp u w) ≡ int_lt (pos 0) (side e (midpoint f))
is_left-midpoint e f u v w p q r = is_gt-int_cmp u w ∙ ap (λ z. int_lt z u) r ∙ positive u v
    ∙ ap (int_lt (pos 0)) (ap₂ (λ y z. y +ℤ z) p q ∙ sym (side-midpoint e f))
  where
    positive : (y z : ℤ) → int_lt (neg_ℤ z) y ≡ int_lt (pos 0) (y +ℤ z)
    positive y z = grind (arith, ints)

-- it lies to the right of the left end, or on its height, where its x, doubled, is at least twice that of the end
pub is_from-midpoint : (e f : Edge) (from middle : ℤ) → from ≡ e.a.x +ℤ e.a.x → middle ≡ f.a.x +ℤ f.b.x →
    is_le (int_cmp from middle) ≡ int_le (e.a.x *ℤ pos 2) (f.a.x +ℤ f.b.x)
is_from-midpoint e f from middle p q = is_le-int_cmp from middle ∙ ap₂ int_le (p ∙ sym (doubled e.a.x)) q

-- it lies to the left of the right end where its x, doubled, is below twice that of the end
pub is_to-midpoint : (e f : Edge) (middle to : ℤ) → middle ≡ f.a.x +ℤ f.b.x → to ≡ e.b.x +ℤ e.b.x →
    is_lt (int_cmp middle to) ≡ int_lt (f.a.x +ℤ f.b.x) (e.b.x *ℤ pos 2)
is_to-midpoint e f middle to q r = is_lt-int_cmp middle to ∙ ap₂ int_lt q (r ∙ sym (doubled e.b.x))
