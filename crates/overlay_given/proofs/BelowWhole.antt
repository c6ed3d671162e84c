-- Whether an edge lies strictly below a whole point.
use Rattle.std.proofs.Common.{◌≡◌, ◌&&◌, ℤ, pos, ◌*ℤ◌, int_lt, int_le, ap, ap₂, ◌∙◌}
use Rattle.std.specs.Ordering.{int_cmp, is_gt}
use Rattle.overlay_geom.specs.Plane.{Point, Edge, side, cross_at, in_plane, is_strictly_below}
use Rattle.overlay_geom.proofs.Comparisons.{is_gt-int_cmp}
use Rattle.overlay_geom.proofs.Identities.{solve, number, ◌⊗◌, ◌≗◌}
use Rattle.overlay_plane.proofs.WholeOnEdges.{side_at, at_itself}

times_one : (z : ℤ) → z *ℤ pos 1 ≡ z
times_one = solve 1 (λ z. z ⊗ number (pos 1) ≗ z) tt

one_times : (z : ℤ) → pos 1 *ℤ z ≡ z
one_times = solve 1 (λ z. number (pos 1) ⊗ z ≗ z) tt

-- the tests of whole numbers
pub below_whole : (e : Edge) (v : Point) → is_strictly_below e (in_plane v) ≡
    (int_le e.a.x v.x && int_lt v.x e.b.x && int_lt (pos 0) (cross_at e.a e.b v))
below_whole e v =
    ap₂ (λ a b. int_le a v.x && int_lt v.x b && int_lt (pos 0) (side e (in_plane v))) (times_one e.a.x)
    (times_one e.b.x)
    ∙ ap (λ z. int_le e.a.x v.x && int_lt v.x e.b.x && int_lt (pos 0) z)
    (side_at e v (in_plane v) (at_itself v) ∙ one_times (cross_at e.a e.b v))

pub left_whole : (e : Edge) (v : Point) (w : ℤ) → w ≡ cross_at e.a e.b v →
    is_gt (int_cmp w (pos 0)) ≡ int_lt (pos 0) (cross_at e.a e.b v)
left_whole e v w is = is_gt-int_cmp w (pos 0) ∙ ap (int_lt (pos 0)) is
