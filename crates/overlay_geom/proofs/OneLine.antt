-- Two collinear edges: they meet in ends alone exactly where they do not overlap.
use Rattle.std.proofs.Common.{◌≡◌, inl, inr, pos, ◌+ℤ◌, ◌-ℤ◌, ◌*ℤ◌, ◌<ℤ◌, ◌≤ℤ◌, sym}
use Rattle.std.proofs.lemmas.Int.{by_lt_z}
use Rattle.overlay_geom.specs.Plane.{Point, PlanePoint, Edge, IsOn, IsEnd, side, midpoint, cross_at}
use Rattle.overlay_geom.specs.Settled.{MeetInEnds}
use Rattle.overlay_geom.specs.Placed.{IsAlong}
use Rattle.overlay_geom.proofs.Identities.{solve, number, ◌⊕◌, ◌⊗◌, ◌⊖◌, ◌≗◌}
use Rattle.overlay_geom.proofs.Products.{doubled}
use Rattle.overlay_geom.proofs.Signs.{linear, mul-zero, zero_of_mul-zero}
use Rattle.overlay_geom.proofs.Cross.{crossE, cross_at_same, cross_at_first}
use Rattle.overlay_geom.proofs.PointOrder.{IsBefore, IsUpTo, by_order, before_up_to, up_to_itself, before_after_up_to}
use Rattle.overlay_geom.proofs.PointOrder.{same_round, before_is_other}
use Rattle.overlay_geom.proofs.AlongEdge.{over, place_of, sideE, over_up_to, on_of_order, order_of_on}

-- it makes no difference which edge comes first
pub meet_in_ends_exchanged : (e f : Edge) → MeetInEnds f e → MeetInEnds e f
meet_in_ends_exchanged e f h p (on_e, on_f) = let ends = h p (on_f, on_e) in (ends.1, ends.0)

-- an edge that ends where another edge begins, or before, meets it in ends alone
pub apart_meet_in_ends : (e f : Edge) → IsBefore e.a e.b → IsBefore f.a f.b → IsUpTo e.b f.a → MeetInEnds e f
apart_meet_in_ends e f e_forward f_forward apart p (on_e, on_f) =
    let to = (order_of_on e p e_forward on_e).1 in
    let from = (order_of_on f p f_forward on_f).0 in
    let same = same_round (place_of p) (over e.b p.d) (over f.a p.d) to (over_up_to e.b f.a p.d p.positive apart)
    from in
    (inr (same.0, same.1), inl (same.2, same.3))

-- ---- the other edge's ends

-- of three ways, two that are parallel to the first are parallel to each other
parallel : (a b u v : Point) → IsBefore a b → cross_at a b u ≡ pos 0 → cross_at a b v ≡ pos 0 → cross_at a u v ≡ pos 0
parallel a b u v forward at_u at_v = by_lt_z a.x b.x wide upright
  where
    wide : a.x <ℤ b.x → cross_at a u v ≡ pos 0
    wide lt =
        let left = mul-zero (u.x -ℤ a.x) (cross_at a b v) at_v in
        let right = mul-zero (v.x -ℤ a.x) (cross_at a b u) at_u in
        let identity = solve 8 (λ ax ay bx by ux uy vx vy. (bx ⊖ ax) ⊗ crossE ax ay ux uy vx vy ≗ (ux ⊖ ax) ⊗ crossE ax
        ay bx by vx vy ⊖ (vx ⊖ ax) ⊗ crossE ax ay bx by ux uy) tt a.x a.y b.x b.y u.x u.y v.x v.y in
        zero_of_mul-zero (b.x -ℤ a.x) (cross_at a u v) (omega linear) (omega linear)

    upright : b.x ≤ℤ a.x → cross_at a u v ≡ pos 0
    upright le =
        let left = mul-zero (u.y -ℤ a.y) (cross_at a b v) at_v in
        let right = mul-zero (v.y -ℤ a.y) (cross_at a b u) at_u in
        let identity = solve 8 (λ ax ay bx by ux uy vx vy. (by ⊖ ay) ⊗ crossE ax ay ux uy vx vy ≗ (uy ⊖ ay) ⊗ crossE ax
        ay bx by vx vy ⊖ (vy ⊖ ay) ⊗ crossE ax ay bx by ux uy) tt a.x a.y b.x b.y u.x u.y v.x v.y in
        let up = forward.y le in
        zero_of_mul-zero (b.y -ℤ a.y) (cross_at a u v) (omega linear) (omega linear)

-- where f lies on e's line, e lies on f's
pub along_exchanged : (e f : Edge) → IsBefore e.a e.b → IsAlong e f → IsAlong f e
along_exchanged e f forward (at_a, at_b) =
    let flat = parallel e.a e.b f.a f.b forward at_a at_b in
    let of_a = solve 6 (λ ax ay ux uy vx vy. crossE ux uy vx vy ax ay ≗ crossE ax ay ux uy vx vy) tt e.a.x e.a.y f.a.x
    f.a.y f.b.x f.b.y in
    let of_b = solve 8 (λ ax ay bx by ux uy vx vy. crossE ux uy vx vy bx by ≗ crossE ax ay ux uy vx vy ⊖ crossE ax ay bx
    by vx vy ⊕ crossE ax ay bx by ux uy) tt e.a.x e.a.y e.b.x e.b.y f.a.x f.a.y f.b.x f.b.y in
    (omega linear, omega linear)

-- ---- overlaps

-- a whole point lies on an edge
pub record IsHeldBy (e : Edge) (u : Point) : Type 0 where
  pub on_line : cross_at e.a e.b u ≡ pos 0
  pub from : IsUpTo e.a u
  pub to : IsUpTo u e.b

-- an edge holds its smaller end
pub holds_start : (e : Edge) → IsBefore e.a e.b → IsHeldBy e e.a
holds_start e forward = record {
  on_line = cross_at_first e.a e.b;
  from = up_to_itself e.a;
  to = before_up_to e.a e.b forward;
}

-- the edge holds its larger end
pub holds_end : (e : Edge) → IsBefore e.a e.b → IsHeldBy e e.b
holds_end e forward = record {
  on_line = cross_at_same e.a e.b;
  from = before_up_to e.a e.b forward;
  to = up_to_itself e.b;
}

-- the midpoint between two points of an edge lies on the edge, and is no end of it
abbrev middle : Point → Point → PlanePoint
middle u v = midpoint (record { a = u; b = v })

-- the midpoint of two points is greater than any point that the smaller is not below
middle_after : (a u v : Point) → IsUpTo a u → IsBefore u v → IsBefore (over a (pos 2)) (place_of (middle u v))
middle_after a u v h k = record {
  x = let twice = doubled a.x in let au = h.x in let uv = k.x in
      omega linear;
  y = in_y;
}
  where
    in_y : (u.x +ℤ v.x) ≤ℤ (a.x *ℤ pos 2) → (a.y *ℤ pos 2) <ℤ (u.y +ℤ v.y)
    in_y le =
        let twice_x = doubled a.x in
        let twice_y = doubled a.y in
        let au = h.x in
        let uv = k.x in
        let up = h.y (omega linear) in
        let further_up = k.y (omega linear) in
        omega linear

-- the midpoint is smaller than any point that the larger is not above
middle_before : (u v b : Point) → IsBefore u v → IsUpTo v b → IsBefore (place_of (middle u v)) (over b (pos 2))
middle_before u v b h k = record {
  x = let twice = doubled b.x in let uv = h.x in let vb = k.x in
      omega linear;
  y = in_y;
}
  where
    in_y : (b.x *ℤ pos 2) ≤ℤ (u.x +ℤ v.x) → (u.y +ℤ v.y) <ℤ (b.y *ℤ pos 2)
    in_y le =
        let twice_x = doubled b.x in
        let twice_y = doubled b.y in
        let uv = h.x in
        let vb = k.x in
        let up = h.y (omega linear) in
        let further_up = k.y (omega linear) in
        omega linear

-- the midpoint lies on an edge that holds both
middle_on : (e : Edge) (u v : Point) → IsBefore e.a e.b → IsHeldBy e u → IsHeldBy e v → IsBefore u v →
    IsOn e (middle u v)
middle_on e u v forward at_u at_v less =
    on_of_order e (middle u v) forward on_line
    (before_up_to _ _ (middle_after e.a u v at_u.from less))
    (before_up_to _ _ (middle_before u v e.b less at_v.to))
  where
    on_line : side e (middle u v) ≡ pos 0
    on_line =
        let zero_u = at_u.on_line in
        let zero_v = at_v.on_line in
        let identity = solve 8 (λ ax ay bx by ux uy vx vy. sideE ax ay bx by (ux ⊕ vx) (uy ⊕ vy)
        (number (pos 2)) ≗ crossE ax ay bx by ux uy ⊕ crossE ax ay bx by vx vy) tt e.a.x e.a.y e.b.x e.b.y u.x
        u.y v.x v.y in
        omega linear

-- the midpoint is not an end of it
middle_is_no_end : (e : Edge) (u v : Point) → IsHeldBy e u → IsHeldBy e v → IsBefore u v → ¬ (IsEnd e (middle u v))
middle_is_no_end e u v at_u at_v less (inl (same_x, same_y)) = before_is_other _ _ (middle_after e.a u v at_u.from less)
    same_x same_y
middle_is_no_end e u v at_u at_v less (inr (same_x, same_y)) = before_is_other _ _ (middle_before u v e.b less at_v.to)
    (sym same_x) (sym same_y)

-- two edges do not meet in ends alone where both hold two points
held_in_common : (e f : Edge) (u v : Point) → IsBefore e.a e.b → IsBefore f.a f.b → IsHeldBy e u → IsHeldBy f u →
    IsHeldBy e v → IsHeldBy f v → IsBefore u v → ¬ (MeetInEnds e f)
held_in_common e f u v e_forward f_forward e_u f_u e_v f_v less h =
    middle_is_no_end e u v e_u e_v less
    (h (middle u v) (middle_on e u v e_forward e_u e_v less, middle_on f u v f_forward f_u f_v less)).0

-- two collinear edges overlap, and f begins no earlier
overlap_from : (e f : Edge) → IsBefore e.a e.b → IsBefore f.a f.b → IsAlong e f → IsAlong f e → IsUpTo e.a f.a →
    IsBefore f.a e.b → ¬ (MeetInEnds e f)
overlap_from e f e_forward f_forward f_along e_along later begins = by_order e.b f.b f_is_longer e_is_longer
  where
    e_holds_start : IsHeldBy e f.a
    e_holds_start = record { on_line = f_along.0; from = later; to = before_up_to f.a e.b begins }

    f_is_longer : IsUpTo e.b f.b → ¬ (MeetInEnds e f)
    f_is_longer to =
        held_in_common e f f.a e.b e_forward f_forward e_holds_start (holds_start f f_forward) (holds_end e e_forward)
        (record { on_line = e_along.1; from = before_up_to f.a e.b begins; to = to }) begins

    e_is_longer : IsBefore f.b e.b → ¬ (MeetInEnds e f)
    e_is_longer to =
        held_in_common e f f.a f.b e_forward f_forward e_holds_start (holds_start f f_forward)
        (record {
          on_line = f_along.1;
          from = before_up_to e.a f.b (before_after_up_to e.a f.a f.b later f_forward);
          to = before_up_to f.b e.b to;
        })
        (holds_end f f_forward) f_forward

-- two collinear edges do not meet in ends alone if each begins before the other ends
pub overlapping_do_not_meet_in_ends : (e f : Edge) → IsBefore e.a e.b → IsBefore f.a f.b → IsAlong e f →
    IsBefore e.a f.b → IsBefore f.a e.b → ¬ (MeetInEnds e f)
overlapping_do_not_meet_in_ends e f e_forward f_forward along e_begins f_begins =
    let back = along_exchanged e f e_forward along in
    by_order e.a f.a
    (λ later. overlap_from e f e_forward f_forward along back later f_begins)
    (λ sooner h. overlap_from f e f_forward e_forward back along (before_up_to f.a e.a sooner) e_begins
    (meet_in_ends_exchanged f e h))
