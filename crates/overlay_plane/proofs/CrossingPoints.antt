-- The crossing of two edges that lie across each other: it is on both, and the sides of an edge's ends tell how far
-- along that edge it is.
use Rattle.std.proofs.Common.{◌≡◌, inl, inr, ℤ, pos, negsuc, nat_abs, ◌+ℤ◌, ◌-ℤ◌, ◌*ℤ◌, neg_ℤ, ◌<ℤ◌, ◌≤ℤ◌, refl, sym}
use Rattle.std.proofs.Common.{ap₂, ◌∙◌}
use Rattle.overlay_geom.specs.Plane.{PlanePoint, Edge, IsOn, cross_at}
use Rattle.overlay_geom.specs.Settled.{IsCommon}
use Rattle.overlay_geom.specs.Placed.{IsAcross}
use Rattle.overlay_geom.proofs.Identities.{solve, number, ◌⊕◌, ◌⊗◌, ◌⊖◌, ⊝◌, ◌≗◌}
use Rattle.overlay_geom.proofs.Signs.{linear}
use Rattle.overlay_geom.proofs.Cross.{crossE}
use Rattle.overlay_geom.proofs.AlongEdge.{sideE}
use Rattle.overlay_geom.proofs.Crossing.{crossed_back}
use Rattle.overlay_geom.proofs.Rounded.{part_between}
use Rattle.overlay_plane.specs.CutPoints.{to_line, across}
use Rattle.overlay_plane.proofs.Placements.{AreCrossing, both_across}

-- ---- points along an edge

-- the point that lies t / d of the way from e's smaller end to its larger
abbrev pub point_along : (e : Edge) (t d : ℤ) → pos 0 <ℤ d → PlanePoint
point_along e t d positive = record {
  x = e.a.x *ℤ d +ℤ (e.b.x -ℤ e.a.x) *ℤ t;
  y = e.a.y *ℤ d +ℤ (e.b.y -ℤ e.a.y) *ℤ t;
  d = d;
  positive = positive;
}

-- a point part of the way lies on the edge
pub part_on : (e : Edge) (t d : ℤ) (positive : pos 0 <ℤ d) → pos 0 ≤ℤ t → t ≤ℤ d → IsOn e (point_along e t d positive)
part_on e t d positive begun within = record {
  on_line = solve 6 (λ ax ay bx by t d. sideE ax ay bx by (ax ⊗ d ⊕ (bx ⊖ ax) ⊗ t) (ay ⊗ d ⊕ (by ⊖ ay) ⊗ t) d ≗ number
      (pos 0)) tt e.a.x e.a.y e.b.x e.b.y t d;
  in_x = part_between e.a.x e.b.x t d begun within;
  in_y = part_between e.a.y e.b.y t d begun within;
}

-- ---- how far along

-- the size of a number that is not negative
pub abs_up : (z : ℤ) → pos 0 ≤ℤ z → pos (nat_abs z) ≡ z
abs_up (pos n) h = refl
abs_up (negsuc n) h = absurd (omega linear)

-- and of one that is not positive
pub abs_down : (z : ℤ) → z ≤ℤ pos 0 → pos (nat_abs z) ≡ neg_ℤ z
abs_down (pos n) h = omega linear
abs_down (negsuc n) h = refl

-- how far e goes across f's direction: the difference of its ends' sides
turn_of_sides : (e f : Edge) → (f.b.x -ℤ f.a.x) *ℤ (e.b.y -ℤ e.a.y) -ℤ (f.b.y -ℤ f.a.y) *ℤ (e.b.x -ℤ e.a.x) ≡ cross_at
    f.a f.b e.b -ℤ cross_at f.a f.b e.a
turn_of_sides e f = solve 8
    (λ ax ay bx by cx cy dx dy. (dx ⊖ cx) ⊗ (by ⊖ ay) ⊖ (dy ⊖ cy) ⊗ (bx ⊖ ax) ≗ crossE cx cy dx dy bx by ⊖ crossE cx cy
    dx dy ax ay)
    tt e.a.x e.a.y e.b.x e.b.y f.a.x f.a.y f.b.x f.b.y

-- e goes from f's right side to its left
record GoesLeft (e f : Edge) : Type 0 where
  from : to_line e f ≡ neg_ℤ (cross_at f.a f.b e.a)
  whole : across e f ≡ cross_at f.a f.b e.b -ℤ cross_at f.a f.b e.a

-- e goes from f's left side to its right
record GoesRight (e f : Edge) : Type 0 where
  from : to_line e f ≡ cross_at f.a f.b e.a
  whole : across e f ≡ cross_at f.a f.b e.a -ℤ cross_at f.a f.b e.b

-- where e's first end is not to the left, and its second is to the left of it
goes_left : (e f : Edge) → cross_at f.a f.b e.a ≤ℤ pos 0 → cross_at f.a f.b e.a <ℤ cross_at f.a f.b e.b → GoesLeft e f
goes_left e f low less =
    let turn = (f.b.x -ℤ f.a.x) *ℤ (e.b.y -ℤ e.a.y) -ℤ (f.b.y -ℤ f.a.y) *ℤ (e.b.x -ℤ e.a.x) in
    let is = turn_of_sides e f in
    record {
      from = abs_down (cross_at f.a f.b e.a) low;
      whole = abs_up turn (omega linear) ∙ is;
    }

-- the converse direction
goes_right : (e f : Edge) → pos 0 ≤ℤ cross_at f.a f.b e.a → cross_at f.a f.b e.b <ℤ cross_at f.a f.b e.a → GoesRight e f
goes_right e f high less =
    let turn = (f.b.x -ℤ f.a.x) *ℤ (e.b.y -ℤ e.a.y) -ℤ (f.b.y -ℤ f.a.y) *ℤ (e.b.x -ℤ e.a.x) in
    let is = turn_of_sides e f in
    let size = abs_down turn (omega linear) in
    record {
      from = abs_up (cross_at f.a f.b e.a) high;
      whole = omega linear;
    }

-- e begins no further from f's line than it goes across, and goes across by more than 0
abbrev pub IsPartWay : Edge → Edge → Type 0
IsPartWay e f = (pos 0 ≤ℤ to_line e f) × (to_line e f ≤ℤ across e f) × (pos 0 <ℤ across e f)

-- an edge that goes across another edge's line meets it part of the way
pub part_way_across : (e f : Edge) → IsAcross f e → IsPartWay e f
part_way_across e f (inl (low, high, less)) =
    let left = goes_left e f low less in
    let from = left.from in
    let whole = left.whole in
    (omega linear, omega linear, omega linear)
part_way_across e f (inr (high, low, less)) =
    let right = goes_right e f low less in
    let from = right.from in
    let whole = right.whole in
    (omega linear, omega linear, omega linear)

-- an edge that ends on that line goes all the way to it
pub whole_way_across : (e f : Edge) → IsAcross f e → cross_at f.a f.b e.b ≡ pos 0 → to_line e f ≡ across e f
whole_way_across e f (inl (low, high, less)) on_line =
    let left = goes_left e f low less in
    let from = left.from in
    let whole = left.whole in
    omega linear
whole_way_across e f (inr (high, low, less)) on_line =
    let right = goes_right e f low less in
    let from = right.from in
    let whole = right.whole in
    omega linear

-- ---- the common point

-- the point of e at which it crosses f's line
abbrev pub crossing_point : (e f : Edge) → pos 0 <ℤ across e f → PlanePoint
crossing_point e f positive = point_along e (to_line e f) (across e f) positive

-- where e crosses f's line, f crosses e's, in the same numbers
pub record CrossAlike (e f : Edge) : Type 0 where
  pub x : e.a.x *ℤ across e f +ℤ (e.b.x -ℤ e.a.x) *ℤ to_line e f ≡ f.a.x *ℤ across f e +ℤ (f.b.x -ℤ f.a.x) *ℤ to_line f
      e
  pub y : e.a.y *ℤ across e f +ℤ (e.b.y -ℤ e.a.y) *ℤ to_line e f ≡ f.a.y *ℤ across f e +ℤ (f.b.y -ℤ f.a.y) *ℤ to_line f
      e
  pub d : across e f ≡ across f e

-- e goes from f's left side to its right, and so f from e's right side to its left
alike_leftward : (e f : Edge) → GoesRight e f → GoesLeft f e → CrossAlike e f
alike_leftward e f right left = record {
  x =
      ap₂ (λ t d. e.a.x *ℤ d +ℤ (e.b.x -ℤ e.a.x) *ℤ t) right.from right.whole
      ∙ solve 8
      (λ ax ay bx by cx cy dx dy. ax ⊗ (crossE cx cy dx dy ax ay ⊖ crossE cx cy dx dy bx by) ⊕ (bx ⊖ ax) ⊗ crossE cx cy
      dx dy ax ay ≗
      cx ⊗ (crossE ax ay bx by dx dy ⊖ crossE ax ay bx by cx cy) ⊕ (dx ⊖ cx) ⊗ ⊝ crossE ax ay bx by cx cy)
      tt e.a.x e.a.y e.b.x e.b.y f.a.x f.a.y f.b.x f.b.y
      ∙ sym (ap₂ (λ t d. f.a.x *ℤ d +ℤ (f.b.x -ℤ f.a.x) *ℤ t) left.from left.whole);
  y =
      ap₂ (λ t d. e.a.y *ℤ d +ℤ (e.b.y -ℤ e.a.y) *ℤ t) right.from right.whole
      ∙ solve 8
      (λ ax ay bx by cx cy dx dy. ay ⊗ (crossE cx cy dx dy ax ay ⊖ crossE cx cy dx dy bx by) ⊕ (by ⊖ ay) ⊗ crossE cx cy
      dx dy ax ay ≗
      cy ⊗ (crossE ax ay bx by dx dy ⊖ crossE ax ay bx by cx cy) ⊕ (dy ⊖ cy) ⊗ ⊝ crossE ax ay bx by cx cy)
      tt e.a.x e.a.y e.b.x e.b.y f.a.x f.a.y f.b.x f.b.y
      ∙ sym (ap₂ (λ t d. f.a.y *ℤ d +ℤ (f.b.y -ℤ f.a.y) *ℤ t) left.from left.whole);
  d = right.whole ∙ sym (crossed_back e f) ∙ sym left.whole;
}

-- so it is whichever way they go
pub cross_alike : (e f : Edge) → IsAcross e f → IsAcross f e → CrossAlike e f
cross_alike e f (inl (f_low, f_high, f_less)) (inr (e_high, e_low, e_less)) = alike_leftward e f
    (goes_right e f e_low e_less) (goes_left f e f_low f_less)
cross_alike e f (inr (f_high, f_low, f_less)) (inl (e_low, e_high, e_less)) =
    let back = alike_leftward f e (goes_right f e f_low f_less) (goes_left e f e_low e_less) in
    record { x = sym back.x; y = sym back.y; d = sym back.d }
cross_alike e f (inl (f_low, f_high, f_less)) (inl (e_low, e_high, e_less)) = absurd (let same = crossed_back e f in
    omega linear)
cross_alike e f (inr (f_high, f_low, f_less)) (inr (e_high, e_low, e_less)) = absurd (let same = crossed_back e f in
    omega linear)

-- of two edges across each other, the point in which e crosses f's line is on both
pub crossing_is_common : (e f : Edge) (positive : pos 0 <ℤ across e f) → AreCrossing e f →
    IsCommon e f (crossing_point e f positive)
crossing_is_common e f positive c = (part_on e (to_line e f) (across e f) positive way.0 way.1, on_f)
  where
    both : IsAcross e f × IsAcross f e
    both = both_across e f c

    way : IsPartWay e f
    way = part_way_across e f both.1

    back : IsPartWay f e
    back = part_way_across f e both.0

    alike : CrossAlike e f
    alike = cross_alike e f both.0 both.1

    there : IsOn f (crossing_point f e back.2)
    there = part_on f (to_line f e) (across f e) back.2 back.0 back.1

    on_f : IsOn f (crossing_point e f positive)
    on_f = record {
      on_line = rw (alike.x, alike.y, alike.d) there.on_line;
      in_x = rw (alike.x, alike.d) there.in_x;
      in_y = rw (alike.y, alike.d) there.in_y;
    }
