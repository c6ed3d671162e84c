-- An edge that passes a corner of a box of points by more than half its girth meets none of their pixels.
use Rattle.std.proofs.Common.{◌≡◌, ◌⊎◌, ⊎_elim, inl, inr, true, ℤ, pos, ◌+ℤ◌, ◌*ℤ◌, ◌-ℤ◌, ◌<ℤ◌, ◌≤ℤ◌, sym, subst}
use Rattle.std.proofs.lemmas.Int.{by_lt_z}
use Rattle.overlay_geom.specs.Plane.{Point, Edge, IsBetween, cross_at}
use Rattle.overlay_geom.specs.Edges.{CountedEdge, ends_of}
use Rattle.overlay_geom.proofs.Cross.{crossE, cross_at_first, cross_at_same}
use Rattle.overlay_geom.proofs.Identities.{solve, ◌≗◌, ◌⊕◌, ◌⊗◌, ◌⊖◌}
use Rattle.overlay_geom.proofs.Signs.{linear, mul-le, mul-nonneg, mul-zero}
use Rattle.overlay_plane.specs.SnapPoints.{half_girth, line_meets, meets_pixel}
use Rattle.overlay_plane.proofs.PixelTests.{twice_cross, Decides-falling, Decides-meets_pixel, Decides-rising}
use Rattle.overlay_plane.proofs.PixelTests.{Decides-upright, IsInBox, girth_falling, girth_rising}
use Rattle.overlay_plane.proofs.Tests.{lt_from_test}
use Rattle.overlay_arrange.specs.PixelRuns.{is_far_above, is_far_below, IsAmidX, PassesAbove, PassesBelow}

-- a number lies between itself and another number
between_first : (u v : ℤ) → IsBetween u u v
between_first u v = by_lt_z v u (λ less. inr (omega linear, omega linear))
    (λ at_least. inl (omega linear, omega linear))

between_second : (u v : ℤ) → IsBetween v u v
between_second u v = by_lt_z v u (λ less. inr (omega linear, omega linear))
    (λ at_least. inl (omega linear, omega linear))

-- the girth of a forward edge is not negative
girth_nonneg : (e : Edge) → e.a.x ≤ℤ e.b.x → pos 0 ≤ℤ half_girth e
girth_nonneg e forward = by_lt_z e.a.y e.b.y
    (λ rises. let is = girth_rising e (omega linear) in omega (linear, is, rises, forward))
    (λ falls. let is = girth_falling e falls in omega (linear, is, falls, forward))

-- a point whose pixel an edge meets is within half the girth of its line
abbrev IsWithinGirth : Edge → Point → Type 0
IsWithinGirth e v = ((pos 0 -ℤ half_girth e) ≤ℤ twice_cross e v) × (twice_cross e v ≤ℤ half_girth e)

line_within : (e : Edge) (v : Point) → line_meets e v ≡ true → IsWithinGirth e v
line_within e v meets = by_lt_z e.a.x e.b.x
    (λ wide. by_lt_z e.a.y e.b.y
    (λ rises. let d = (Decides-rising e v wide rises).0 meets in let low = d.0 in let high = d.1 in
    (omega (linear, low), omega (linear, high)))
    (λ falls. let d = (Decides-falling e v wide falls).0 meets in let low = d.0 in let high = d.1 in
    (omega (linear, low), high)))
    (λ upright. let d = (Decides-upright e v upright).0 meets in let low = d.0 in let high = d.1 in
    (low, omega (linear, high)))

-- an end is on the line
end_within : (e : Edge) (v : Point) → e.a.x ≤ℤ e.b.x → cross_at e.a e.b v ≡ pos 0 → IsWithinGirth e v
end_within e v forward on =
    let some = girth_nonneg e forward in
    let twice : twice_cross e v ≡ pos 0 = mul-zero (pos 2) (cross_at e.a e.b v) on in
    (omega (linear, some, twice), omega (linear, some, twice))

module _ (e : Edge) (v : Point) (meets : meets_pixel e v ≡ true) where
  abbrev Met : Type 0
  Met = ((v ≡ e.a) ⊎ (v ≡ e.b)) ⊎ (IsInBox e v × (line_meets e v ≡ true))

  met : Met
  met = (Decides-meets_pixel e v).0 meets

  -- it lies in the bounding box
  pub met_in_box : IsInBox e v
  met_in_box = by met
    where
      by : Met → IsInBox e v
      by (inl (inl is)) = subst (IsInBox e) (sym is) (between_first e.a.x e.b.x, between_first e.a.y e.b.y)
      by (inl (inr is)) = subst (IsInBox e) (sym is) (between_second e.a.x e.b.x, between_second e.a.y e.b.y)
      by (inr (box, line)) = box

  -- the point is near the line
  pub met_within : e.a.x ≤ℤ e.b.x → IsWithinGirth e v
  met_within forward = by met
    where
      by : Met → IsWithinGirth e v
      by (inl (inl is)) = subst (IsWithinGirth e) (sym is) (end_within e e.a forward (cross_at_first e.a e.b))
      by (inl (inr is)) = subst (IsWithinGirth e) (sym is) (end_within e e.b forward (cross_at_same e.a e.b))
      by (inr (box, line)) = line_within e v line

-- how far the cross products of two points are apart
crosses_apart : (e : Edge) (c v : Point) → cross_at e.a e.b c ≡ cross_at e.a e.b v
    +ℤ ((e.b.x -ℤ e.a.x) *ℤ (c.y -ℤ v.y) +ℤ (e.b.y -ℤ e.a.y) *ℤ (v.x -ℤ c.x))
crosses_apart e c v = solve 8 (λ ax ay bx by cx cy vx vy. crossE ax ay bx by cx cy
    ≗ crossE ax ay bx by vx vy ⊕ ((bx ⊖ ax) ⊗ (cy ⊖ vy) ⊕ (by ⊖ ay) ⊗ (vx ⊖ cx))) tt
    e.a.x e.a.y e.b.x e.b.y c.x c.y v.x v.y

module _ (e : CountedEdge) (forward : e.a.x ≤ℤ e.b.x) (x y : ℤ) where
  abbrev corner : Point
  corner = record { x = x; y = y }

  -- where the corner is so far below the line, e passes above
  pub passes_above_corner : is_far_below (ends_of e) corner ≡ true → PassesAbove e x y
  passes_above_corner far v under onward meets =
      let below = lt_from_test (twice_cross (ends_of e) corner) (pos 0 -ℤ half_girth (ends_of e)) far in
      let near = (met_within (ends_of e) v meets forward).0 in
      let up = mul-nonneg (e.b.x -ℤ e.a.x) (y -ℤ v.y) (omega (linear, forward)) (omega (linear, under)) in
      let apart = crosses_apart (ends_of e) corner v in
      let less : cross_at e.a e.b v ≤ℤ cross_at e.a e.b corner = omega (linear, up, onward, apart) in
      let twice = mul-le (pos 2) (cross_at e.a e.b v) (cross_at e.a e.b corner) (omega linear) less in
      omega (linear, below, near, twice)

  -- where it is so far above the line, e passes below
  pub passes_below_corner : is_far_above (ends_of e) corner ≡ true → PassesBelow e x y
  passes_below_corner far v over onward meets =
      let above = lt_from_test (half_girth (ends_of e)) (twice_cross (ends_of e) corner) far in
      let near = (met_within (ends_of e) v meets forward).1 in
      let up = mul-nonneg (e.b.x -ℤ e.a.x) (v.y -ℤ y) (omega (linear, forward)) (omega (linear, over)) in
      let apart = crosses_apart (ends_of e) v corner in
      let less : cross_at e.a e.b corner ≤ℤ cross_at e.a e.b v = omega (linear, up, onward, apart) in
      let twice = mul-le (pos 2) (cross_at e.a e.b corner) (cross_at e.a e.b v) (omega linear) less in
      omega (linear, above, near, twice)

  -- points below both ends, or above both, are not in the box
  pub passes_above_below_ends : y <ℤ e.a.y → y <ℤ e.b.y → PassesAbove e x y
  passes_above_below_ends under_a under_b v under onward meets = ⊎_elim
      (λ up. let from = up.0 in omega (linear, under_a, under, from))
      (λ down. let from = down.0 in omega (linear, under_b, under, from)) (met_in_box (ends_of e) v meets).1

  pub passes_below_above_ends : e.a.y <ℤ y → e.b.y <ℤ y → PassesBelow e x y
  passes_below_above_ends over_a over_b v over onward meets = ⊎_elim
      (λ up. let to = up.1 in omega (linear, over_b, over, to))
      (λ down. let to = down.1 in omega (linear, over_a, over, to)) (met_in_box (ends_of e) v meets).1

-- it lies neither left nor right of the edge
pub met_amid : (e : CountedEdge) (v : Point) → e.a.x ≤ℤ e.b.x → meets_pixel (ends_of e) v ≡ true → IsAmidX e v.x
met_amid e v forward meets = ⊎_elim (λ up. up)
    (λ down. let a = down.0 in let b = down.1 in (omega (linear, a, b, forward), omega (linear, a, b, forward)))
    (met_in_box (ends_of e) v meets).0
