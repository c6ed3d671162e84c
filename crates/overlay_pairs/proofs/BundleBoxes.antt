-- The box of a bundle: it holds the ends of the bundle's edges. It lies on one side of an edge's line where its corner
-- nearest to that line does, and then the edge meets no edge of the bundle.
use Rattle.std.proofs.Common.{◌≡◌, inl, inr, ℕ, Bool, true, false, cond, ℤ, pos, ◌+ℤ◌, ◌-ℤ◌, ◌*ℤ◌, ◌<ℤ◌, ◌≤ℤ◌}
use Rattle.std.proofs.Common.{int_lt, refl}
use Rattle.std.specs.Bool.{Decides}
use Rattle.std.proofs.lemmas.Bool.{false≢true}
use Rattle.std.proofs.lemmas.Int.{by_lt_z}
use Rattle.overlay_geom.specs.Edges.{CountedEdge, ends_of}
use Rattle.overlay_geom.specs.Numbers.{Within}
use Rattle.overlay_geom.specs.Placed.{IsBeside}
use Rattle.overlay_geom.specs.Plane.{Edge, Point, cross_at}
use Rattle.overlay_geom.proofs.Beside.{beside_meet_in_ends}
use Rattle.overlay_geom.proofs.Comparisons.{Decides-int_lt}
use Rattle.overlay_geom.proofs.Cross.{crossE}
use Rattle.overlay_geom.proofs.Identities.{solve, ◌⊕◌, ◌⊗◌, ◌⊖◌, ◌≗◌}
use Rattle.overlay_geom.proofs.PointOrder.{Decides-point_lt}
use Rattle.overlay_geom.proofs.Signs.{linear, mul-nonneg, mul-nonpos}
use Rattle.overlay_order.specs.Content.{IsHeld}
use Rattle.overlay_pairs.specs.Bundles.{Bundle, IsBoxBeside, IsBoxLeft, IsBoxRight, IsInBox, IsLeftOfParallel}
use Rattle.overlay_pairs.specs.Extents.{extent_of, Encloses}
use Rattle.overlay_pairs.specs.Settle.{AreSettled}
use Rattle.overlay_pairs.proofs.BundleLines.{across_none, across_sum}
use Rattle.overlay_pairs.proofs.FarEdges.{span}

-- ---- boxes that hold ends

-- one of two numbers in range is in range
pub within_either : (limit : ℕ) (b : Bool) (y z : ℤ) → Within limit y → Within limit z → Within limit (cond b y z)
within_either limit true y z first second = first
within_either limit false y z first second = second

-- the ends of an edge lie in a box that encloses the edge's own
pub ends_in_box : (limit : ℕ) (bundle : Bundle) (e : CountedEdge) (place : ℕ) → IsHeld limit e →
    Encloses bundle.extent (extent_of e place) → bundle.west ≤ℤ e.a.x → e.b.x ≤ℤ bundle.east →
    IsInBox bundle e.a × IsInBox bundle e.b
ends_in_box limit bundle e place held encloses west east =
    let forward = ((Decides-point_lt e.a e.b).0 held.forward).x in
    let low = encloses.low in let high = encloses.high in
    let own = span e in
    let a_from = own.a_from in let b_from = own.b_from in let a_to = own.a_to in let b_to = own.b_to in (
      record { west = west; east = omega linear; low = omega linear; high = omega linear },
      record { west = omega linear; east = east; low = omega linear; high = omega linear },
    )

-- ---- boxes beside a line

module _ (limit : ℕ) (bundle : Bundle) (e : CountedEdge) (held : IsHeld limit e) where
  -- how far two points lie to the left of an edge's line
  left_by : (v c : Point) → cross_at e.a e.b v
      ≡ cross_at e.a e.b c +ℤ ((e.b.x -ℤ e.a.x) *ℤ (v.y -ℤ c.y) +ℤ (e.b.y -ℤ e.a.y) *ℤ (c.x -ℤ v.x))
  left_by v c = solve 8 (λ ax ay bx by vx vy cx cy. crossE ax ay bx by vx vy ≗ crossE ax ay bx by cx cy
      ⊕ ((bx ⊖ ax) ⊗ (vy ⊖ cy) ⊕ (by ⊖ ay) ⊗ (cx ⊖ vx))) tt e.a.x e.a.y e.b.x e.b.y v.x v.y c.x c.y

  -- a product of two differences, each turned round
  turned : (x z : ℤ) → (e.b.y -ℤ e.a.y) *ℤ (x -ℤ z) ≡ (e.a.y -ℤ e.b.y) *ℤ (z -ℤ x)
  turned x z = solve 4 (λ ay by x z. (by ⊖ ay) ⊗ (x ⊖ z) ≗ (ay ⊖ by) ⊗ (z ⊖ x)) tt e.a.y e.b.y x z

  -- the ends are in order
  forward : e.a.x ≤ℤ e.b.x
  forward = ((Decides-point_lt e.a e.b).0 held.forward).x

  -- the box lies to the left of the edge's line where its corner farthest to the right does
  pub left_by_corner : (x : ℤ) → x ≡ cond (int_lt e.b.y e.a.y) bundle.west bundle.east →
      IsLeftOfParallel (record { a = e.a; b = e.b }) e.a (record { x = x; y = bundle.extent.low }) →
      IsBoxLeft bundle e
  left_by_corner x is left v inside =
      let sum = left_by v (record { x = x; y = bundle.extent.low }) in
      let ordered = forward in
      let low = inside.low in
      let up = mul-nonneg (e.b.x -ℤ e.a.x) (v.y -ℤ bundle.extent.low) (omega linear) (omega linear) in
      let aside = by (int_lt e.b.y e.a.y) (Decides-int_lt e.b.y e.a.y) is in
      omega linear
    where
      by : (b : Bool) → Decides b (e.b.y <ℤ e.a.y) → x ≡ cond b bundle.west bundle.east →
          pos 0 ≤ℤ ((e.b.y -ℤ e.a.y) *ℤ (x -ℤ v.x))
      by true falls west =
          let less = falls.0 refl in
          let from = inside.west in
          let product = mul-nonneg (e.a.y -ℤ e.b.y) (v.x -ℤ x) (omega linear) (omega linear) in
          let same = turned x v.x in
          omega linear
      by false falls east =
          let to = inside.east in
          mul-nonneg (e.b.y -ℤ e.a.y) (x -ℤ v.x)
          (by_lt_z e.b.y e.a.y (λ less. absurd (false≢true (falls.1 less))) (λ rises. omega linear)) (omega linear)

  -- the box lies to the right where its corner farthest to the left does
  pub right_by_corner : (x : ℤ) → x ≡ cond (int_lt e.b.y e.a.y) bundle.east bundle.west →
      IsLeftOfParallel (record { a = e.a; b = e.b }) (record { x = x; y = bundle.extent.high }) e.a →
      IsBoxRight bundle e
  right_by_corner x is right v inside =
      let sum = left_by v (record { x = x; y = bundle.extent.high }) in
      let d : Edge = record { a = e.a; b = e.b } in
      let back = across_sum d e.a (record { x = x; y = bundle.extent.high }) e.a in
      let none = across_none d e.a in
      let ordered = forward in
      let high = inside.high in
      let down = mul-nonpos (e.b.x -ℤ e.a.x) (v.y -ℤ bundle.extent.high) (omega linear) (omega linear) in
      let aside = by (int_lt e.b.y e.a.y) (Decides-int_lt e.b.y e.a.y) is in
      omega linear
    where
      by : (b : Bool) → Decides b (e.b.y <ℤ e.a.y) → x ≡ cond b bundle.east bundle.west →
          ((e.b.y -ℤ e.a.y) *ℤ (x -ℤ v.x)) ≤ℤ pos 0
      by true falls east =
          let less = falls.0 refl in
          let to = inside.east in
          let product = mul-nonpos (e.a.y -ℤ e.b.y) (v.x -ℤ x) (omega linear) (omega linear) in
          let same = turned x v.x in
          omega linear
      by false falls west =
          let from = inside.west in
          mul-nonpos (e.b.y -ℤ e.a.y) (x -ℤ v.x)
          (by_lt_z e.b.y e.a.y (λ less. absurd (false≢true (falls.1 less))) (λ rises. omega linear)) (omega linear)

-- an edge in a box beside the line of e meets e in ends alone
pub settled_by_box : (limit : ℕ) (bundle : Bundle) (e f : CountedEdge) → IsHeld limit f → IsInBox bundle f.a →
    IsInBox bundle f.b → IsBoxBeside bundle e → AreSettled e f
settled_by_box limit bundle e f held a b aside =
    beside_meet_in_ends (ends_of e) (ends_of f) ((Decides-point_lt f.a f.b).0 held.forward) (by aside)
  where
    by : IsBoxBeside bundle e → IsBeside (ends_of e) (ends_of f)
    by (inl left) = inl (left f.a a, left f.b b)
    by (inr right) = inr (right f.a a, right f.b b)
