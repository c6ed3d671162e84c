-- Whole points on edges: a point of the plane at a whole point lies on an edge exactly where the whole point is on the
-- line, between the ends.
use lib.IntN.{*ℤ_comm}
use Rattle.std.proofs.Common.{◌≡◌, Bool, true, false, not, ◌&&◌, ℤ, pos, ◌-ℤ◌, ◌*ℤ◌, ◌<ℤ◌, ◌≤ℤ◌, refl, sym, ap, ap₂}
use Rattle.std.proofs.Common.{subst, ◌∙◌, arith}
use Rattle.std.specs.Bool.{Decides}
use Rattle.std.specs.Ordering.{int_eq}
use Rattle.std.proofs.lemmas.Int.{ints}
use Rattle.std.proofs.lemmas.Bool.Decides.{Decides-int_eq, Decides-and, Decides-or, Decides-not, Decides-like}
use Rattle.std.proofs.lemmas.Bool.Decides.{not_from_Decides}
use Rattle.overlay_geom.specs.Plane.{Point, PlanePoint, Edge, IsOn, IsAt, IsEnd, SamePlace, side, cross_at, in_plane}
use Rattle.overlay_geom.specs.Plane.{point_lt}
use Rattle.overlay_geom.proofs.Identities.{solve, ◌⊗◌, ◌≗◌}
use Rattle.overlay_geom.proofs.Signs.{linear, mul-zero, zero_of_mul-zero, le_of_mul-le}
use Rattle.overlay_geom.proofs.Cross.{crossE}
use Rattle.overlay_geom.proofs.Orders.{same_point}
use Rattle.overlay_geom.proofs.PointOrder.{IsBefore, IsUpTo, Decides-point_lt, by_order, before_after_up_to}
use Rattle.overlay_geom.proofs.PointOrder.{before_is_other}
use Rattle.overlay_geom.proofs.AlongEdge.{over, place_of, sideE, over_le, over_up_to, on_of_order, order_of_on}
use Rattle.overlay_geom.proofs.OneLine.{IsHeldBy}
use Rattle.overlay_plane.specs.CutPoints.{is_between}

-- an edge that passes the test leads from a smaller point to a larger one
pub forward_from_test : (e : Edge) → point_lt e.a e.b ≡ true → IsBefore e.a e.b
forward_from_test e = (Decides-point_lt e.a e.b).0

-- a whole point in the plane is at itself
pub at_itself : (v : Point) → IsAt v (in_plane v)
at_itself v = (omega (arith, ints), omega (arith, ints))

-- and at no other one
pub at_whole : (v w : Point) → IsAt v (in_plane w) → v ≡ w
at_whole v w at = same_point v w (let x = at.0 in omega (arith, ints)) (let y = at.1 in omega (arith, ints))

-- points of the plane at one whole point are equal
pub same_place_at : (v : Point) (p q : PlanePoint) → IsAt v p → IsAt v q → SamePlace p q
same_place_at v p q at_p at_q = (crossed v.x p.x q.x at_p.0 at_q.0, crossed v.y p.y q.y at_p.1 at_q.1)
  where
    crossed : (a x y : ℤ) → x ≡ a *ℤ p.d → y ≡ a *ℤ q.d → x *ℤ q.d ≡ y *ℤ p.d
    crossed a x y is_x is_y = ap (λ u. u *ℤ q.d) is_x ∙ solve 3 (λ a p q. (a ⊗ p) ⊗ q ≗ (a ⊗ q) ⊗ p) tt a p.d q.d
        ∙ sym (ap (λ u. u *ℤ p.d) is_y)

-- the side of a whole point in the plane is its cross product
pub side_at : (e : Edge) (v : Point) (p : PlanePoint) → IsAt v p → side e p ≡ p.d *ℤ cross_at e.a e.b v
side_at e v p at =
    ap₂ (λ x y. (e.b.x -ℤ e.a.x) *ℤ (y -ℤ e.a.y *ℤ p.d) -ℤ (e.b.y -ℤ e.a.y) *ℤ (x -ℤ e.a.x *ℤ p.d)) at.0 at.1
    ∙ solve 7 (λ ax ay bx by vx vy d. sideE ax ay bx by (vx ⊗ d) (vy ⊗ d) d ≗ d ⊗ crossE ax ay bx by vx vy) tt e.a.x
    e.a.y e.b.x e.b.y v.x v.y p.d

-- a whole point's coordinates over the denominator are the place of the point of the plane
at_place : (v : Point) (p : PlanePoint) → IsAt v p → over v p.d ≡ place_of p
at_place v p at = same_point (over v p.d) (place_of p) (sym at.0) (sym at.1)

-- order is kept without the denominator
pub up_to_of_over : (u v : Point) (d : ℤ) → pos 0 <ℤ d → IsUpTo (over u d) (over v d) → IsUpTo u v
up_to_of_over u v d positive h =
    record { x = cancel u.x v.x h.x; y = λ le. cancel u.y v.y (h.y (over_le v.x u.x d positive le)) }
  where
    cancel : (a b : ℤ) → (a *ℤ d) ≤ℤ (b *ℤ d) → a ≤ℤ b
    cancel a b le = let left = *ℤ_comm a d in let right = *ℤ_comm b d in le_of_mul-le d a b positive (omega linear)

-- a point of the plane at a whole point that an edge holds lies on the edge
pub on_of_held : (e : Edge) (v : Point) (p : PlanePoint) → IsBefore e.a e.b → IsAt v p → IsHeldBy e v → IsOn e p
on_of_held e v p forward at held =
    on_of_order e p forward
    (side_at e v p at ∙ mul-zero p.d (cross_at e.a e.b v) held.on_line)
    (subst (λ w. IsUpTo (over e.a p.d) w) (at_place v p at) (over_up_to e.a v p.d p.positive held.from))
    (subst (λ w. IsUpTo w (over e.b p.d)) (at_place v p at) (over_up_to v e.b p.d p.positive held.to))

-- an edge on which it lies holds that whole point
pub held_of_on : (e : Edge) (v : Point) (p : PlanePoint) → IsBefore e.a e.b → IsAt v p → IsOn e p → IsHeldBy e v
held_of_on e v p forward at on =
    let order = order_of_on e p forward on in
    record {
      on_line = zero_of_mul-zero p.d (cross_at e.a e.b v) p.positive (sym (side_at e v p at) ∙ on.on_line);
      from = up_to_of_over e.a v p.d p.positive (subst (λ w. IsUpTo (over e.a p.d) w) (sym (at_place v p at)) order.0);
      to = up_to_of_over v e.b p.d p.positive (subst (λ w. IsUpTo w (over e.b p.d)) (sym (at_place v p at)) order.1);
    }

-- a point is at least another point exactly where that is up to it
Decides-not_lt : (p q : Point) → Decides (not (point_lt p q)) (IsUpTo q p)
Decides-not_lt p q = Decides-like (not (point_lt p q)) forth back (Decides-not (point_lt p q) (Decides-point_lt p q))
  where
    forth : ¬ (IsBefore p q) → IsUpTo q p
    forth none = by_order q p (λ up. up) (λ before. absurd (none before))

    back : IsUpTo q p → ¬ (IsBefore p q)
    back up before = before_is_other q q (before_after_up_to q p q up before) refl refl

-- the test tells whether the point lies between the ends
pub Decides-is_between : (e : Edge) (v : Point) → Decides (is_between e v) (IsUpTo e.a v × IsUpTo v e.b)
Decides-is_between e v = Decides-and _ _ (Decides-not_lt v e.a) (Decides-not_lt e.b v)

-- the test tells whether a point of the plane is at the whole point
pub Decides-is_at : (v : Point) (p : PlanePoint) → Decides (int_eq p.x (v.x *ℤ p.d) && int_eq p.y (v.y *ℤ p.d))
    (IsAt v p)
Decides-is_at v p = Decides-and _ _ (Decides-int_eq p.x (v.x *ℤ p.d)) (Decides-int_eq p.y (v.y *ℤ p.d))

-- by what a test tells
pub by_test : {P Q : Type 0} (b : Bool) → Decides b P → (P → Q) → (¬ P → Q) → Q
by_test true d f g = f (d.0 refl)
by_test false d f g = g (not_from_Decides false d refl)

-- by whether a point of the plane is an end of the edge
pub by_end : {Q : Type 0} (e : Edge) (p : PlanePoint) → (IsEnd e p → Q) → (¬ (IsEnd e p) → Q) → Q
by_end e p = by_test _ (Decides-or _ _ (Decides-is_at e.a p) (Decides-is_at e.b p))
