-- The order of anchors for two edges that start in one point.
use Rattle.std.proofs.Common.{◌≡◌, true, false, ◌&&◌, ◌||◌, ℤ, pos, ◌-ℤ◌, ◌*ℤ◌, int_lt, refl, sym, ap, ap₂, ◌∙◌, subst}
use Rattle.std.specs.Ordering.{is_lt, is_eq, int_cmp}
use Rattle.std.specs.declared.cmp.Ordering.TheVariants.{Equal}
use Rattle.overlay_geom.specs.Plane.{Point, Edge, point_lt, point_eq, cross_at}
use Rattle.overlay_geom.proofs.Comparisons.{is_lt-int_cmp}
use Rattle.overlay_geom.proofs.Orders.{point_eq-same, point_lt-is_less}
use Rattle.overlay_geom.specs.Resolved.{point_cmp}
use Rattle.overlay_geom.proofs.PointComparisons.{point_cmp-is_order, point_cmp-is_tie}
use Rattle.overlay_geom.proofs.Signs.{linear}
use Rattle.overlay_plane.specs.Nodes.{edge_turn, turns_left}
use Rattle.overlay_plane.specs.Anchors.{is_anchored_before}
use Rattle.overlay_plane.proofs.EdgeTurns.{edge_turn_exchanged}
use Rattle.overlay_plane.proofs.Tests.{lt_from_test, test_from_lt, same_tests}

-- from one point the cross product tells which edge is before the other
pub tied_before : (e f : Edge) (z : ℤ) → point_cmp e.a f.a ≡ Equal → z ≡ cross_at e.a f.b e.b →
    is_lt (int_cmp z (pos 0)) ≡ is_anchored_before e f
tied_before e f z tied crossed =
    is_lt-int_cmp z (pos 0) ∙ ap (λ v. int_lt v (pos 0)) (crossed ∙ turned) ∙ flipped
    ∙ sym (ap₂ (λ b c. b || (c && turns_left e f)) not_less equal)
  where
    not_less : point_lt e.a f.a ≡ false
    not_less = point_lt-is_less e.a f.a ∙ ap is_lt (sym (point_cmp-is_order e.a f.a) ∙ tied)

    equal : point_eq e.a f.a ≡ true
    equal = sym (point_cmp-is_tie e.a f.a) ∙ ap is_eq tied

    cross_with : Point → ℤ
    cross_with v = (f.b.x -ℤ v.x) *ℤ (e.b.y -ℤ e.a.y) -ℤ (f.b.y -ℤ v.y) *ℤ (e.b.x -ℤ e.a.x)

    turned : cross_at e.a f.b e.b ≡ edge_turn f e
    turned = subst (λ v. cross_at e.a f.b e.b ≡ cross_with v) (point_eq-same e.a f.a equal) refl

    flipped : int_lt (edge_turn f e) (pos 0) ≡ int_lt (pos 0) (edge_turn e f)
    flipped =
        let back = edge_turn_exchanged e f in
        same_tests (int_lt (edge_turn f e) (pos 0)) (int_lt (pos 0) (edge_turn e f))
        (λ h. let low = lt_from_test (edge_turn f e) (pos 0) h in test_from_lt (pos 0) (edge_turn e f) (omega linear))
        (λ h. let low = lt_from_test (pos 0) (edge_turn e f) h in test_from_lt (edge_turn f e) (pos 0) (omega linear))
