-- A point at the place of another lies at the same part of an edge.
use Rattle.std.proofs.Common.{◌≡◌, ℤ, pos, ◌+ℤ◌, ◌-ℤ◌, ◌*ℤ◌, ◌<ℤ◌, ap, ◌∙◌}
use Rattle.overlay_geom.specs.Plane.{PlanePoint, Edge, SamePlace}
use Rattle.overlay_geom.proofs.Identities.{solve, ◌⊗◌, ◌≗◌}
use Rattle.overlay_geom.proofs.Signs.{eq_of_mul-eq}
use Rattle.overlay_exact.specs.Parts.{Fraction, LiesAt}

-- a coordinate x / d that is k / n, and y / c equal to it
moved_coordinate : (x d y c n k : ℤ) → pos 0 <ℤ d → y *ℤ d ≡ x *ℤ c → x *ℤ n ≡ k *ℤ d → y *ℤ n ≡ k *ℤ c
moved_coordinate x d y c n k positive same lies = eq_of_mul-eq d (y *ℤ n) (k *ℤ c) positive
    (solve 3 (λ d y n. d ⊗ (y ⊗ n) ≗ n ⊗ (y ⊗ d)) tt d y n
    ∙ ap (λ z. n *ℤ z) same
    ∙ solve 3 (λ n x c. n ⊗ (x ⊗ c) ≗ c ⊗ (x ⊗ n)) tt n x c
    ∙ ap (λ z. c *ℤ z) lies
    ∙ solve 3 (λ c k d. c ⊗ (k ⊗ d) ≗ d ⊗ (k ⊗ c)) tt c k d)

-- q is where p is
pub lies_moved : (e : Edge) (s : Fraction) (p q : PlanePoint) → SamePlace q p → LiesAt e s p → LiesAt e s q
lies_moved e s p q (same_x, same_y) lies = record {
  x = moved_coordinate p.x p.d q.x q.d s.d (e.a.x *ℤ s.d +ℤ (e.b.x -ℤ e.a.x) *ℤ s.n) p.positive same_x lies.x;
  y = moved_coordinate p.y p.d q.y q.d s.d (e.a.y *ℤ s.d +ℤ (e.b.y -ℤ e.a.y) *ℤ s.n) p.positive same_y lies.y;
}
