-- The two lines of a bundle: moved apart they reach a further point. An edge with both ends beyond one of them meets no
-- edge between them.
use Rattle.std.proofs.Common.{◌≡◌, ◌⊎◌, inl, inr, ℕ, ℤ, pos, ◌+ℤ◌, ◌-ℤ◌, ◌*ℤ◌, ◌<ℤ◌, ◌≤ℤ◌, refl, sym, ◌∙◌, subst}
use Rattle.std.proofs.lemmas.Int.{by_lt_z}
use Rattle.overlay_geom.specs.Edges.{CountedEdge, ends_of}
use Rattle.overlay_geom.specs.Plane.{Edge, PlanePoint, Point, IsOn, cross_at, side}
use Rattle.overlay_geom.specs.Settled.{MeetInEnds}
use Rattle.overlay_geom.proofs.Cross.{crossE}
use Rattle.overlay_geom.proofs.Identities.{solve, Expr, ◌⊕◌, ◌⊗◌, ◌⊖◌, ◌≗◌}
use Rattle.overlay_geom.proofs.MeansOfEnds.{mean_of_ends, side_of_mean}
use Rattle.overlay_geom.proofs.PointOrder.{Decides-point_lt, IsBefore}
use Rattle.overlay_geom.proofs.Signs.{linear, mul-pos, mul-nonneg, mul-nonpos}
use Rattle.overlay_order.specs.Content.{IsHeld}
use Rattle.overlay_pairs.specs.Bundles.{Bundle, HoldsEdge, IsBetweenLines, IsBeyondLine, IsInBox, IsLeftOfParallel}
use Rattle.overlay_pairs.specs.Bundles.{IsReached, IsWidened, across}
use Rattle.overlay_pairs.specs.Extents.{Extent, Encloses}
use Rattle.overlay_pairs.specs.Settle.{AreSettled}
use Rattle.overlay_pairs.proofs.ExtentBlocks.{covers_through}

-- `across` as it is written
abbrev acrossE : (ax ay bx by px py qx qy : Expr) → Expr
acrossE ax ay bx by px py qx qy = (bx ⊖ ax) ⊗ (qy ⊖ py) ⊖ (by ⊖ ay) ⊗ (qx ⊖ px)

-- the ways across add up
pub across_sum : (d : Edge) (p q r : Point) → across d p q +ℤ across d q r ≡ across d p r
across_sum d p q r = solve 10 (λ ax ay bx by px py qx qy rx ry. acrossE ax ay bx by px py qx qy ⊕ acrossE ax ay bx by qx
    qy rx ry ≗ acrossE ax ay bx by px py rx ry) tt d.a.x d.a.y d.b.x d.b.y p.x p.y q.x q.y r.x r.y

-- there is none from a point to itself
pub across_none : (d : Edge) (p : Point) → across d p p ≡ pos 0
across_none d p = let twice = across_sum d p p p in omega linear

-- in the direction of an edge its ends lie on one line
pub both_on_line : (d : Edge) → across d d.a d.b ≡ pos 0
both_on_line d = solve 4 (λ ax ay bx by. acrossE ax ay bx by ax ay bx by ≗ acrossE ax ay bx by ax ay ax ay) tt d.a.x
    d.a.y d.b.x d.b.y ∙ across_none d d.a

-- ---- lines moved apart

-- a line is moved to a point beyond it, or stays where it is not beyond
abbrev pub IsMovedTo : Type 0 → Point → Point → Point → Type 0
IsMovedTo beyond old v new = (beyond × (new ≡ v)) ⊎ ((¬ beyond) × (new ≡ old))

-- then the bundle reaches the point
pub reached_by : (bundle : Bundle) (v left right : Point) →
    IsMovedTo (IsLeftOfParallel bundle.along bundle.left v) bundle.left v left →
    IsMovedTo (IsLeftOfParallel bundle.along v bundle.right) bundle.right v right →
    IsReached bundle v (record {
      extent = bundle.extent;
      west = bundle.west;
      east = bundle.east;
      along = bundle.along;
      left = left;
      right = right;
    })
reached_by bundle v left right moved_left moved_right = record {
  extent = refl;
  west = refl;
  east = refl;
  along = refl;
  keeps = λ u between. record {
    left = keeps_left u between.left moved_left;
    right = keeps_right u between.right moved_right;
  };
  reaches = record { left = reaches_left moved_left; right = reaches_right moved_right };
}
  where
    d : Edge
    d = bundle.along

    keeps_left : (u : Point) → across d bundle.left u ≤ℤ pos 0 →
        IsMovedTo (IsLeftOfParallel d bundle.left v) bundle.left v left → across d left u ≤ℤ pos 0
    keeps_left u below (inl (beyond, is)) = subst (λ p. across d p u ≤ℤ pos 0) (sym is)
        (let sum = across_sum d bundle.left v u in omega linear)
    keeps_left u below (inr (stays, is)) = subst (λ p. across d p u ≤ℤ pos 0) (sym is) below

    keeps_right : (u : Point) → across d u bundle.right ≤ℤ pos 0 →
        IsMovedTo (IsLeftOfParallel d v bundle.right) bundle.right v right → across d u right ≤ℤ pos 0
    keeps_right u above (inl (beyond, is)) = subst (λ p. across d u p ≤ℤ pos 0) (sym is)
        (let sum = across_sum d u v bundle.right in omega linear)
    keeps_right u above (inr (stays, is)) = subst (λ p. across d u p ≤ℤ pos 0) (sym is) above

    reaches_left : IsMovedTo (IsLeftOfParallel d bundle.left v) bundle.left v left → across d left v ≤ℤ pos 0
    reaches_left (inl (beyond, is)) = subst (λ p. across d p v ≤ℤ pos 0) (sym is)
        (let none = across_none d v in omega linear)
    reaches_left (inr (stays, is)) = subst (λ p. across d p v ≤ℤ pos 0) (sym is)
        (by_lt_z (pos 0) (across d bundle.left v) (λ beyond. absurd (stays beyond)) (λ not. not))

    reaches_right : IsMovedTo (IsLeftOfParallel d v bundle.right) bundle.right v right → across d v right ≤ℤ pos 0
    reaches_right (inl (beyond, is)) = subst (λ p. across d v p ≤ℤ pos 0) (sym is)
        (let none = across_none d v in omega linear)
    reaches_right (inr (stays, is)) = subst (λ p. across d v p ≤ℤ pos 0) (sym is)
        (by_lt_z (pos 0) (across d v bundle.right) (λ beyond. absurd (stays beyond)) (λ not. not))

-- the bundle with another box
abbrev pub boxed : Bundle → Extent → ℤ → ℤ → Bundle
boxed bundle box west east = record {
  extent = box;
  west = west;
  east = east;
  along = bundle.along;
  left = bundle.left;
  right = bundle.right;
}

-- two points reached, and a larger box: the bundle is widened by an edge
pub widened_by : (old mid new : Bundle) (box s : Extent) (west east : ℤ) (e : CountedEdge) → IsReached old e.a mid →
    IsReached mid e.b new → Encloses box old.extent → Encloses box s → west ≤ℤ old.west → old.east ≤ℤ east →
    IsInBox (boxed new box west east) e.a × IsInBox (boxed new box west east) e.b →
    HoldsEdge (boxed new box west east) s e × IsWidened old (boxed new box west east)
widened_by old mid new box s west east e to_a to_b of_old of_s of_west of_east inside = (
  record {
    box = of_s;
    a = between e.a (to_b.keeps e.a to_a.reaches);
    b = between e.b to_b.reaches;
    a_in = inside.0;
    b_in = inside.1;
  },
  (λ t f holds. record {
    box = covers_through box old.extent t of_old holds.box;
    a = between f.a (to_b.keeps f.a (to_a.keeps f.a holds.a));
    b = between f.b (to_b.keeps f.b (to_a.keeps f.b holds.b));
    a_in = in_wider f.a holds.a_in;
    b_in = in_wider f.b holds.b_in;
  }),
)
  where
    between : (u : Point) → IsBetweenLines new u → IsBetweenLines (boxed new box west east) u
    between u it = record { left = it.left; right = it.right }

    in_wider : (u : Point) → IsInBox old u → IsInBox (boxed new box west east) u
    in_wider u it =
        let w = it.west in let e = it.east in let l = it.low in let h = it.high in
        let lower = of_old.low in let higher = of_old.high in
        record { west = omega linear; east = omega linear; low = omega linear; high = omega linear }

-- in the opposite direction left and right are exchanged
abbrev back : Edge → Edge
back d = record { a = d.b; b = d.a }

across_back : (d : Edge) (p q : Point) → across (back d) p q ≡ across d q p
across_back d p q = solve 8 (λ ax ay bx by px py qx qy. acrossE bx by ax ay px py qx qy ≗ acrossE ax ay bx by qx qy px
    py) tt d.a.x d.a.y d.b.x d.b.y p.x p.y q.x q.y

-- ---- beyond a line

-- the line through p in the direction of an edge
abbrev line_at : Edge → Point → Edge
line_at d p = record { a = p; b = record { x = p.x +ℤ (d.b.x -ℤ d.a.x); y = p.y +ℤ (d.b.y -ℤ d.a.y) } }

-- the side of that line tells the way across
side_of_line : (d : Edge) (p q : Point) → across d p q ≡ cross_at (line_at d p).a (line_at d p).b q
side_of_line d p q = solve 8 (λ ax ay bx by px py qx qy. acrossE ax ay bx by px py qx qy ≗ crossE px py (px ⊕ (bx ⊖ ax))
    (py ⊕ (by ⊖ ay)) qx qy) tt d.a.x d.a.y d.b.x d.b.y p.x p.y q.x q.y

module _ (g : Edge) where
  -- a point of an edge with both ends to the left of a line lies to the left of it
  left_of : (e : Edge) (p : PlanePoint) → IsBefore e.a e.b → IsOn e p → pos 0 <ℤ cross_at g.a g.b e.a →
      pos 0 <ℤ cross_at g.a g.b e.b → pos 0 <ℤ side g p
  left_of e p forward on a b =
      let w = mean_of_ends e p forward on in
      let sum = side_of_mean g e p w in
      let size = mul-pos w.both p.d w.some p.positive in
      let weights = w.sum in
      by_lt_z (pos 0) (side g p) (λ left. left) (λ other.
      let none = mul-nonpos w.both (side g p) (let some = w.some in omega linear) other in
      absurd (by_lt_z (pos 0) w.of_a
      (λ more. let first = mul-pos w.of_a (cross_at g.a g.b e.a) more a in
      let second = mul-nonneg w.of_b (cross_at g.a g.b e.b) w.b_nonneg (omega linear) in omega linear)
      (λ less. let first = mul-nonneg w.of_a (cross_at g.a g.b e.a) w.a_nonneg (omega linear) in
      let second = mul-pos w.of_b (cross_at g.a g.b e.b) (omega linear) b in omega linear)))

  -- of an edge with no end to the left of it no point does
  not_left_of : (e : Edge) (p : PlanePoint) → IsBefore e.a e.b → IsOn e p → cross_at g.a g.b e.a ≤ℤ pos 0 →
      cross_at g.a g.b e.b ≤ℤ pos 0 → side g p ≤ℤ pos 0
  not_left_of e p forward on a b =
      let w = mean_of_ends e p forward on in
      let sum = side_of_mean g e p w in
      let first = mul-nonpos w.of_a (cross_at g.a g.b e.a) w.a_nonneg a in
      let second = mul-nonpos w.of_b (cross_at g.a g.b e.b) w.b_nonneg b in
      by_lt_z (pos 0) (side g p)
      (λ left. let more = mul-pos w.both (side g p) w.some left in absurd (omega linear)) (λ other. other)

  -- so the two edges do not meet
  apart_by_line : (e f : Edge) → IsBefore e.a e.b → IsBefore f.a f.b → pos 0 <ℤ cross_at g.a g.b e.a →
      pos 0 <ℤ cross_at g.a g.b e.b → cross_at g.a g.b f.a ≤ℤ pos 0 → cross_at g.a g.b f.b ≤ℤ pos 0 →
      (p : PlanePoint) → IsOn e p → IsOn f p → ⊥
  apart_by_line e f e_forward f_forward ea eb fa fb p on_e on_f =
      let left = left_of e p e_forward on_e ea eb in
      let not_left = not_left_of f p f_forward on_f fa fb in
      omega linear

-- an edge with both ends beyond a line of a bundle meets the bundle's edges in ends alone
pub settled_beyond : (limit : ℕ) (bundle : Bundle) (s : Extent) (e f : CountedEdge) → IsHeld limit e → IsHeld limit f →
    HoldsEdge bundle s f → IsBeyondLine bundle e → AreSettled e f
settled_beyond limit bundle s e f e_held f_held holds = by
  where
    d : Edge
    d = bundle.along

    e_forward : IsBefore e.a e.b
    e_forward = (Decides-point_lt e.a e.b).0 e_held.forward

    f_forward : IsBefore f.a f.b
    f_forward = (Decides-point_lt f.a f.b).0 f_held.forward

    by : IsBeyondLine bundle e → AreSettled e f
    by (inl (a, b)) = λ p common.
        let v = bundle.left in
        let ea = side_of_line d v e.a in let eb = side_of_line d v e.b in
        let fa = side_of_line d v f.a in let fb = side_of_line d v f.b in
        let below_a = holds.a.left in let below_b = holds.b.left in
        absurd (apart_by_line (line_at d v) (ends_of e) (ends_of f) e_forward f_forward (omega linear) (omega linear)
        (omega linear) (omega linear) p common.0 common.1)
    by (inr (a, b)) = λ p common.
        let v = bundle.right in
        let ea = side_of_line (back d) v e.a in let eb = side_of_line (back d) v e.b in
        let fa = side_of_line (back d) v f.a in let fb = side_of_line (back d) v f.b in
        let ea_back = across_back d v e.a in let eb_back = across_back d v e.b in
        let fa_back = across_back d v f.a in let fb_back = across_back d v f.b in
        let above_a = holds.a.right in let above_b = holds.b.right in
        absurd (apart_by_line (line_at (back d) v) (ends_of e) (ends_of f) e_forward f_forward (omega linear)
        (omega linear) (omega linear) (omega linear) p common.0 common.1)
