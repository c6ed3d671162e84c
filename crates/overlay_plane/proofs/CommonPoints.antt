-- The points that two edges share: at most one where they are not collinear. Each is a meeting point, or an inner point
-- of both where they overlap.
use Rattle.std.proofs.Common.{◌≡◌, ◌⊎◌, inl, inr, ℤ, pos, ◌-ℤ◌, ◌*ℤ◌, neg_ℤ, ◌<ℤ◌, ◌≤ℤ◌}
use Rattle.std.specs.Bool.{Decides}
use Rattle.std.proofs.lemmas.Int.{by_lt_z}
use Rattle.std.proofs.lemmas.Bool.Decides.{Decides-int_eq, Decides-and}
use Rattle.overlay_geom.specs.Plane.{PlanePoint, Edge, IsEnd, SamePlace, side, cross_at}
use Rattle.overlay_geom.specs.Settled.{IsCommon}
use Rattle.overlay_geom.specs.Placed.{IsAlong}
use Rattle.overlay_geom.proofs.Identities.{solve, ◌⊕◌, ◌⊗◌, ◌⊖◌, ◌≗◌}
use Rattle.overlay_geom.proofs.Products.{neg_ℤ-mul}
use Rattle.overlay_geom.proofs.Signs.{linear, by_sign, mul-zero, zero_of_mul-zero}
use Rattle.overlay_geom.proofs.Cross.{crossE}
use Rattle.overlay_geom.proofs.PointOrder.{IsBefore}
use Rattle.overlay_geom.proofs.AlongEdge.{sideE}
use Rattle.overlay_plane.specs.CutPoints.{are_along}
use Rattle.overlay_plane.specs.Meetings.{IsMeetingPoint}
use Rattle.overlay_plane.proofs.WholeOnEdges.{by_test, by_end}

-- how far f goes across e's line
abbrev crossed : Edge → Edge → ℤ
crossed e f = cross_at e.a e.b f.b -ℤ cross_at e.a e.b f.a

-- an edge that does not go across e's line, and has a point on it, lies along it
pub along_of_parallel : (e f : Edge) (p : PlanePoint) → IsBefore f.a f.b → crossed e f ≡ pos 0 → side e p ≡ pos 0 →
    side f p ≡ pos 0 → IsAlong e f
along_of_parallel e f p forward none e_p f_p = let at_a = by_lt_z f.a.x f.b.x wide upright in (at_a, omega linear)
  where
    wide : f.a.x <ℤ f.b.x → cross_at e.a e.b f.a ≡ pos 0
    wide less =
        let of_e = mul-zero (f.b.x -ℤ f.a.x) (side e p) e_p in
        let of_f = mul-zero (e.b.x -ℤ e.a.x) (side f p) f_p in
        let of_both = mul-zero (p.x -ℤ f.a.x *ℤ p.d) (crossed e f) none in
        let identity = solve 11
        (λ ax ay bx by cx cy dx dy x y d. (dx ⊖ cx) ⊗ (d ⊗ crossE ax ay bx by cx cy) ≗
        (dx ⊖ cx) ⊗ sideE ax ay bx by x y d ⊖ (x ⊖ cx ⊗ d) ⊗ (crossE ax ay bx by dx dy ⊖ crossE ax ay bx by cx cy) ⊖
        (bx ⊖ ax) ⊗ sideE cx cy dx dy x y d)
        tt e.a.x e.a.y e.b.x e.b.y f.a.x f.a.y f.b.x f.b.y p.x p.y p.d in
        zero_of_mul-zero p.d (cross_at e.a e.b f.a) p.positive
        (zero_of_mul-zero (f.b.x -ℤ f.a.x) (p.d *ℤ cross_at e.a e.b f.a) (omega linear) (omega linear))

    upright : f.b.x ≤ℤ f.a.x → cross_at e.a e.b f.a ≡ pos 0
    upright le =
        let up = forward.y le in
        let of_e = mul-zero (f.b.y -ℤ f.a.y) (side e p) e_p in
        let of_f = mul-zero (e.b.y -ℤ e.a.y) (side f p) f_p in
        let of_both = mul-zero (p.y -ℤ f.a.y *ℤ p.d) (crossed e f) none in
        let identity = solve 11
        (λ ax ay bx by cx cy dx dy x y d. (dy ⊖ cy) ⊗ (d ⊗ crossE ax ay bx by cx cy) ≗
        (dy ⊖ cy) ⊗ sideE ax ay bx by x y d ⊖ (y ⊖ cy ⊗ d) ⊗ (crossE ax ay bx by dx dy ⊖ crossE ax ay bx by cx cy) ⊖
        (by ⊖ ay) ⊗ sideE cx cy dx dy x y d)
        tt e.a.x e.a.y e.b.x e.b.y f.a.x f.a.y f.b.x f.b.y p.x p.y p.d in
        zero_of_mul-zero p.d (cross_at e.a e.b f.a) p.positive
        (zero_of_mul-zero (f.b.y -ℤ f.a.y) (p.d *ℤ cross_at e.a e.b f.a) (omega linear) (omega linear))

-- a number is 0 if its product with a number other than 0 is
zero_of_factor : (k z : ℤ) → ¬ (k ≡ pos 0) → k *ℤ z ≡ pos 0 → z ≡ pos 0
zero_of_factor k z some none =
    by_sign k
    (λ negative. let turned = neg_ℤ-mul k z in zero_of_mul-zero (neg_ℤ k) z (omega linear) (omega linear))
    (λ zero. absurd (some zero))
    (λ positive. zero_of_mul-zero k z positive none)

-- two lines share one point if one goes across the other
pub one_on_both : (e f : Edge) (p q : PlanePoint) → ¬ (crossed e f ≡ pos 0) →
    side e p ≡ pos 0 → side f p ≡ pos 0 → side e q ≡ pos 0 → side f q ≡ pos 0 → SamePlace q p
one_on_both e f p q across e_p f_p e_q f_q = (omega (linear, in_x), omega (linear, in_y))
  where
    in_x : q.x *ℤ p.d -ℤ p.x *ℤ q.d ≡ pos 0
    in_x =
        let first = mul-zero (p.d *ℤ (f.b.x -ℤ f.a.x)) (side e q) e_q in
        let second = mul-zero (p.d *ℤ (e.b.x -ℤ e.a.x)) (side f q) f_q in
        let third = mul-zero (q.d *ℤ (f.b.x -ℤ f.a.x)) (side e p) e_p in
        let fourth = mul-zero (q.d *ℤ (e.b.x -ℤ e.a.x)) (side f p) f_p in
        let identity = solve 14
        (λ ax ay bx by cx cy dx dy x y d u v w. (crossE ax ay bx by dx dy ⊖ crossE ax ay bx by cx cy) ⊗
        (u ⊗ d ⊖ x ⊗ w) ≗
        (d ⊗ (dx ⊖ cx)) ⊗ sideE ax ay bx by u v w ⊖ (d ⊗ (bx ⊖ ax)) ⊗ sideE cx cy dx dy u v w
        ⊖ (w ⊗ (dx ⊖ cx)) ⊗ sideE ax ay bx by x y d ⊕ (w ⊗ (bx ⊖ ax)) ⊗ sideE cx cy dx dy x y d)
        tt e.a.x e.a.y e.b.x e.b.y f.a.x f.a.y f.b.x f.b.y p.x p.y p.d q.x q.y q.d in
        zero_of_factor (crossed e f) (q.x *ℤ p.d -ℤ p.x *ℤ q.d) across (omega linear)

    in_y : q.y *ℤ p.d -ℤ p.y *ℤ q.d ≡ pos 0
    in_y =
        let first = mul-zero (p.d *ℤ (f.b.y -ℤ f.a.y)) (side e q) e_q in
        let second = mul-zero (p.d *ℤ (e.b.y -ℤ e.a.y)) (side f q) f_q in
        let third = mul-zero (q.d *ℤ (f.b.y -ℤ f.a.y)) (side e p) e_p in
        let fourth = mul-zero (q.d *ℤ (e.b.y -ℤ e.a.y)) (side f p) f_p in
        let identity = solve 14
        (λ ax ay bx by cx cy dx dy x y d u v w. (crossE ax ay bx by dx dy ⊖ crossE ax ay bx by cx cy) ⊗
        (v ⊗ d ⊖ y ⊗ w) ≗
        (d ⊗ (dy ⊖ cy)) ⊗ sideE ax ay bx by u v w ⊖ (d ⊗ (by ⊖ ay)) ⊗ sideE cx cy dx dy u v w
        ⊖ (w ⊗ (dy ⊖ cy)) ⊗ sideE ax ay bx by x y d ⊕ (w ⊗ (by ⊖ ay)) ⊗ sideE cx cy dx dy x y d)
        tt e.a.x e.a.y e.b.x e.b.y f.a.x f.a.y f.b.x f.b.y p.x p.y p.d q.x q.y q.d in
        zero_of_factor (crossed e f) (q.y *ℤ p.d -ℤ p.y *ℤ q.d) across (omega linear)

-- two edges that do not lie along one line have one point in common at most
pub only_unless_along : (e f : Edge) (p q : PlanePoint) → IsBefore f.a f.b → ¬ (IsAlong e f) → IsCommon e f p →
    IsCommon e f q → SamePlace q p
only_unless_along e f p q forward apart (on_e, on_f) (also_on_e, also_on_f) =
    one_on_both e f p q (λ none. apart (along_of_parallel e f p forward none on_e.on_line on_f.on_line))
    on_e.on_line on_f.on_line also_on_e.on_line also_on_f.on_line

-- ---- meeting points

-- a common point that is an end of one of the edges is a meeting point
pub end_is_meeting : (e f : Edge) (p : PlanePoint) → IsCommon e f p → IsEnd e p ⊎ IsEnd f p → IsMeetingPoint e f p
end_is_meeting e f p common end = record { common = common; only_or_end = inr end }

-- where the edges do not lie along one line, each common point is one
pub common_is_meeting : (e f : Edge) (p : PlanePoint) → IsBefore f.a f.b → ¬ (IsAlong e f) → IsCommon e f p →
    IsMeetingPoint e f p
common_is_meeting e f p forward apart common =
    record { common = common; only_or_end = inl (λ q also. only_unless_along e f p q forward apart common also) }

-- the test tells whether both ends of f lie on e's line
pub Decides-are_along : (e f : Edge) → Decides (are_along e f) (IsAlong e f)
Decides-are_along e f = Decides-and _ _ (Decides-int_eq (cross_at e.a e.b f.a) (pos 0))
    (Decides-int_eq (cross_at e.a e.b f.b) (pos 0))

-- a common point is a meeting point, or the edges lie along one line, and it is an end of neither
pub common_cases : (e f : Edge) (p : PlanePoint) → IsBefore f.a f.b → IsCommon e f p →
    IsMeetingPoint e f p ⊎ (IsAlong e f × ¬ (IsEnd e p) × ¬ (IsEnd f p))
common_cases e f p forward common =
    by_test (are_along e f) (Decides-are_along e f)
    (λ along. by_end e p
    (λ end. inl (end_is_meeting e f p common (inl end)))
    (λ no_end. by_end f p (λ end. inl (end_is_meeting e f p common (inr end))) (λ none. inr (along, no_end, none))))
    (λ apart. inl (common_is_meeting e f p forward apart common))
