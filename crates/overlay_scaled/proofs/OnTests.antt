-- The test whether a point lies on an edge, and points on an edge in order along its line.
use Rattle.std.proofs.Common.{◌≡◌, ◌⊎◌, inl, inr, true, false, ℤ, pos, ◌*ℤ◌}
use Rattle.std.specs.Bool.{Decides}
use Rattle.std.proofs.lemmas.Bool.{false_from_ne_true}
use Rattle.std.proofs.lemmas.Bool.Decides.{Decides-int_eq, Decides-and, Decides-or}
use Rattle.overlay_geom.specs.Plane.{PlanePoint, Edge, IsOn, IsBetween, side}
use Rattle.overlay_plane.proofs.Tests.{Decides-int_le}
use Rattle.overlay_plane.proofs.WholeOnEdges.{by_test}
use Rattle.overlay_scaled.specs.Through.{is_amid, is_on}

Decides-is_amid : (z u v : ℤ) → Decides (is_amid z u v) (IsBetween z u v)
Decides-is_amid z u v = Decides-or _ _ (Decides-and _ _ (Decides-int_le u z) (Decides-int_le z v))
    (Decides-and _ _ (Decides-int_le v z) (Decides-int_le z u))

decides : (e : Edge) (p : PlanePoint) → Decides (is_on e p)
    (((side e p ≡ pos 0) × IsBetween p.x (e.a.x *ℤ p.d) (e.b.x *ℤ p.d)) × IsBetween p.y (e.a.y *ℤ p.d) (e.b.y *ℤ p.d))
decides e p = Decides-and _ _ (Decides-and _ _ (Decides-int_eq (side e p) (pos 0))
    (Decides-is_amid p.x (e.a.x *ℤ p.d) (e.b.x *ℤ p.d))) (Decides-is_amid p.y (e.a.y *ℤ p.d) (e.b.y *ℤ p.d))

-- the test passes where the point lies on the edge
pub on_from_test : (e : Edge) (p : PlanePoint) → is_on e p ≡ true → IsOn e p
on_from_test e p t =
    let h = (decides e p).0 t in
    record { on_line = h.0.0; in_x = h.0.1; in_y = h.1 }

pub test_from_on : (e : Edge) (p : PlanePoint) → IsOn e p → is_on e p ≡ true
test_from_on e p on = (decides e p).1 ((on.on_line, on.in_x), on.in_y)

pub test_from_off : (e : Edge) (p : PlanePoint) → ¬ (IsOn e p) → is_on e p ≡ false
test_from_off e p off = false_from_ne_true (is_on e p) (λ t. off (on_from_test e p t))

-- a point lies on an edge or not
pub on_or_off : (e : Edge) (p : PlanePoint) → IsOn e p ⊎ (¬ (IsOn e p))
on_or_off e p = by_test _ (decides e p) (λ h. inl (record { on_line = h.0.0; in_x = h.0.1; in_y = h.1 }))
    (λ none. inr (λ on. none ((on.on_line, on.in_x), on.in_y)))
