-- Collinear edges: points on the line of one lie on that of the other, and they have no single common point inside
-- both.
use Rattle.std.proofs.Common.{◌≡◌, inl, pos, ◌-ℤ◌, ◌*ℤ◌, ◌<ℤ◌, ◌≤ℤ◌, sym, ◌∙◌}
use Rattle.std.proofs.lemmas.Int.{by_lt_z}
use Rattle.overlay_geom.specs.Plane.{Point, PlanePoint, Edge, IsOn, IsEnd, SamePlace, in_plane, side, cross_at}
use Rattle.overlay_geom.specs.Placed.{IsAlong}
use Rattle.overlay_geom.specs.Settled.{IsCommon}
use Rattle.overlay_geom.proofs.Cross.{crossE}
use Rattle.overlay_geom.proofs.Identities.{solve, ◌⊕◌, ◌⊗◌, ◌⊖◌, ◌≗◌}
use Rattle.overlay_geom.proofs.OneLine.{along_exchanged, IsHeldBy}
use Rattle.overlay_geom.proofs.PointOrder.{IsBefore, IsUpTo, by_order, before_up_to, up_to_through}
use Rattle.overlay_geom.proofs.AlongEdge.{over, place_of, sideE, over_up_to, on_of_order, order_of_on}
use Rattle.overlay_geom.proofs.Signs.{linear, mul-zero, zero_of_mul-zero}
use Rattle.overlay_plane.proofs.Ends.{start_on}
use Rattle.overlay_plane.proofs.WholeOnEdges.{at_itself, side_at, on_of_held, up_to_of_over}
use Rattle.overlay_plane.proofs.WholePlaces.{at_moved}

-- where f lies along e, each point of f's line is on e's line
pub on_line_of : (e f : Edge) (p : PlanePoint) → IsBefore f.a f.b → IsAlong e f → side f p ≡ pos 0 → side e p ≡ pos 0
on_line_of e f p forward (along_a, along_b) on_line = by_lt_z f.a.x f.b.x wide upright
  where
    wide : f.a.x <ℤ f.b.x → side e p ≡ pos 0
    wide lt =
        let at_a = mul-zero (f.b.x *ℤ p.d -ℤ p.x) (cross_at e.a e.b f.a) along_a in
        let at_b = mul-zero (p.x -ℤ f.a.x *ℤ p.d) (cross_at e.a e.b f.b) along_b in
        let at_p = mul-zero (e.b.x -ℤ e.a.x) (side f p) on_line in
        let identity = solve 11 (λ ax ay bx by ux uy vx vy x y d. (vx ⊖ ux) ⊗ sideE ax ay bx by x y d
        ≗ ((vx ⊗ d ⊖ x) ⊗ crossE ax ay bx by ux uy ⊕ (x ⊖ ux ⊗ d) ⊗ crossE ax ay bx by vx vy)
        ⊕ (bx ⊖ ax) ⊗ sideE ux uy vx vy x y d) tt e.a.x e.a.y e.b.x e.b.y f.a.x f.a.y f.b.x f.b.y p.x p.y p.d in
        zero_of_mul-zero (f.b.x -ℤ f.a.x) (side e p) (omega linear) (omega linear)

    upright : f.b.x ≤ℤ f.a.x → side e p ≡ pos 0
    upright le =
        let at_a = mul-zero (f.b.y *ℤ p.d -ℤ p.y) (cross_at e.a e.b f.a) along_a in
        let at_b = mul-zero (p.y -ℤ f.a.y *ℤ p.d) (cross_at e.a e.b f.b) along_b in
        let at_p = mul-zero (e.b.y -ℤ e.a.y) (side f p) on_line in
        let up = forward.y le in
        let identity = solve 11 (λ ax ay bx by ux uy vx vy x y d. (vy ⊖ uy) ⊗ sideE ax ay bx by x y d
        ≗ ((vy ⊗ d ⊖ y) ⊗ crossE ax ay bx by ux uy ⊕ (y ⊖ uy ⊗ d) ⊗ crossE ax ay bx by vx vy)
        ⊕ (by ⊖ ay) ⊗ sideE ux uy vx vy x y d) tt e.a.x e.a.y e.b.x e.b.y f.a.x f.a.y f.b.x f.b.y p.x p.y p.d in
        zero_of_mul-zero (f.b.y -ℤ f.a.y) (side e p) (omega linear) (omega linear)

-- and so is each whole point of it
pub whole_on_line_of : (e f : Edge) (v : Point) → IsBefore f.a f.b → IsAlong e f → cross_at f.a f.b v ≡ pos 0 →
    cross_at e.a e.b v ≡ pos 0
whole_on_line_of e f v forward along on_line =
    let f_line : side f (in_plane v) ≡ pos 0 = side_at f v (in_plane v) (at_itself v)
    ∙ mul-zero (pos 1) (cross_at f.a f.b v) on_line in
    zero_of_mul-zero (pos 1) (cross_at e.a e.b v) (record { lt = tt })
    (sym (side_at e v (in_plane v) (at_itself v)) ∙ on_line_of e f (in_plane v) forward along f_line)

-- edges along a third one lie along each other
pub along_through : (e f k : Edge) → IsBefore e.a e.b → IsAlong e f → IsAlong e k → IsAlong k f
along_through e f k forward f_along k_along =
    let back = along_exchanged e k forward k_along in
    (whole_on_line_of k e f.a forward back f_along.0, whole_on_line_of k e f.b forward back f_along.1)

-- an edge that holds both ends of another edge has its points on it
pub on_holder : (e g : Edge) (p : PlanePoint) → IsBefore e.a e.b → IsBefore g.a g.b → IsHeldBy e g.a → IsHeldBy e g.b →
    IsOn g p → IsOn e p
on_holder e g p e_forward g_forward start end on =
    on_of_order e p e_forward (on_line_of e g p g_forward (start.on_line, end.on_line) on.on_line)
    (up_to_through (over e.a p.d) (over g.a p.d) (place_of p) (over_up_to e.a g.a p.d p.positive start.from)
    (order_of_on g p g_forward on).0)
    (up_to_through (place_of p) (over g.b p.d) (over e.b p.d) (order_of_on g p g_forward on).1
    (over_up_to g.b e.b p.d p.positive end.to))

-- whole points on both sides of a point of the plane are in order
up_to_by_place : (u v : Point) (p : PlanePoint) → IsUpTo (over u p.d) (place_of p) → IsUpTo (place_of p) (over v p.d) →
    IsUpTo u v
up_to_by_place u v p from to = up_to_of_over u v p.d p.positive
    (up_to_through (over u p.d) (place_of p) (over v p.d) from to)

-- of two edges with a common point, each starts up to the end of the other
pub starts_up_to_end : (f k : Edge) (p : PlanePoint) → IsBefore f.a f.b → IsBefore k.a k.b → IsCommon f k p →
    IsUpTo f.a k.b
starts_up_to_end f k p f_forward k_forward (on_f, on_k) =
    up_to_by_place f.a k.b p (order_of_on f p f_forward on_f).0 (order_of_on k p k_forward on_k).1

-- a smaller end of an edge that is on another edge, along it, is common
later_start_common : (f k : Edge) (p : PlanePoint) → IsBefore f.a f.b → IsBefore k.a k.b → IsAlong f k →
    IsCommon f k p → IsUpTo f.a k.a →
    IsCommon f k (in_plane k.a)
later_start_common f k p f_forward k_forward along common later = (
  on_of_held f k.a (in_plane k.a) f_forward (at_itself k.a) (record {
    on_line = along.0;
    from = later;
    to = starts_up_to_end k f p k_forward f_forward (common.1, common.0);
  }),
  start_on k,
)

-- two edges along one line have one common point alone only where it is an end of one of them
pub only_common_is_end : (f k : Edge) (p : PlanePoint) → IsBefore f.a f.b → IsBefore k.a k.b → IsAlong f k →
    IsCommon f k p →
    ((q : PlanePoint) → IsCommon f k q → SamePlace q p) → ¬ (IsEnd f p) → ¬ (IsEnd k p) → ⊥
only_common_is_end f k p f_forward k_forward along common only no_end_f no_end_k = by_order f.a k.a
    (λ up. let also = later_start_common f k p f_forward k_forward along common up in
    no_end_k (inl (at_moved k.a (in_plane k.a) p (only (in_plane k.a) also) (at_itself k.a))))
    (λ before. let also = later_start_common k f p k_forward f_forward (along_exchanged f k f_forward along)
    (common.1, common.0)
    (before_up_to k.a f.a before) in
    no_end_f (inl (at_moved f.a (in_plane f.a) p (only (in_plane f.a) (also.1, also.0)) (at_itself f.a))))
