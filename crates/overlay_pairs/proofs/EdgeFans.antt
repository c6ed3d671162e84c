-- Fans: two edges with different directions that share an end meet in it alone. Directions run from smaller to larger
-- ends, so they lie in one half of the plane, and their order from right to left is transitive.
use lib.IntN.{*ℤ_comm}
use Rattle.std.proofs.Common.{◌≡◌, ◌⊎◌, inl, inr, ℕ, ℤ, pos, ◌+ℤ◌, ◌-ℤ◌, ◌*ℤ◌, neg_ℤ, ◌<ℤ◌, ◌≤ℤ◌, Bool, true, false}
use Rattle.std.proofs.Common.{sym, subst, ◌∙◌}
use Rattle.std.proofs.lemmas.Bool.{false≢true}
use Rattle.std.proofs.lemmas.Int.{by_lt_z}
use Rattle.overlay_geom.specs.Edges.{CountedEdge, ends_of}
use Rattle.overlay_geom.specs.Placed.{IsAcross}
use Rattle.overlay_geom.specs.Plane.{Edge, Point, cross_at}
use Rattle.overlay_geom.specs.Resolved.{IsLongEdge}
use Rattle.overlay_geom.proofs.Cross.{crossE, cross_at_first, cross_at_same}
use Rattle.overlay_geom.proofs.Crossing.{IsEndpoint, sharing_meet_in_ends}
use Rattle.overlay_geom.proofs.Identities.{solve, ◌⊕◌, ◌⊗◌, ◌⊖◌, ⊝◌, ◌≗◌}
use Rattle.overlay_geom.proofs.PointOrder.{Decides-point_lt, IsBefore}
use Rattle.overlay_geom.proofs.Signs.{linear, mul-nonneg, mul-pos, mul-zero, pos_of_mul-pos}
use Rattle.overlay_order.specs.Content.{IsHeld}
use Rattle.overlay_pairs.specs.Bundles.{Fan, EndsIn, HoldsRound, IsBesideFan, IsFanRound, IsFanWidened, IsHeldFan}
use Rattle.overlay_pairs.specs.Bundles.{IsInFan, IsLeftOfParallel, IsTurnedAside, across}
use Rattle.overlay_pairs.specs.Settle.{AreSettled}

-- ---- vectors

-- the vector leads to the right, or straight up
pub record IsAhead (x y : ℤ) : Type 0 where
  pub right : pos 0 ≤ℤ x
  pub up : x ≤ℤ pos 0 → pos 0 <ℤ y

-- the cross product of two vectors
abbrev pub turn : (ex ey lx ly : ℤ) → ℤ
turn ex ey lx ly = ex *ℤ ly -ℤ ey *ℤ lx

module _ (ex ey lx ly fx fy : ℤ) (e_ahead : IsAhead ex ey) (l_ahead : IsAhead lx ly) (f_ahead : IsAhead fx fy) where
  -- three vectors have a relation
  turns : lx *ℤ turn ex ey fx fy ≡ ex *ℤ turn lx ly fx fy +ℤ fx *ℤ turn ex ey lx ly
  turns = solve 6 (λ ex ey lx ly fx fy. lx ⊗ (ex ⊗ fy ⊖ ey ⊗ fx) ≗ ex ⊗ (lx ⊗ fy ⊖ ly ⊗ fx)
      ⊕ fx ⊗ (ex ⊗ ly ⊖ ey ⊗ lx)) tt ex ey lx ly fx fy

  -- where l leads straight up, f to the left of it or along it leads straight up too
  f_up : lx ≤ℤ pos 0 → pos 0 ≤ℤ turn lx ly fx fy → fx ≤ℤ pos 0
  f_up straight not_right = by_lt_z (pos 0) fx (λ more.
      let from = l_ahead.right in
      let none = mul-zero fy lx (omega linear) in
      let same = *ℤ_comm fy lx in
      let product = mul-pos ly fx (l_ahead.up straight) more in
      absurd (omega linear)) (λ less. less)

  -- where e leads straight up, l does not lie to the left of it, and along it only where it leads straight up
  e_right : pos 0 ≤ℤ turn ex ey lx ly → pos 0 <ℤ lx → pos 0 <ℤ ex
  e_right not_right more = by_lt_z (pos 0) ex (λ ahead. ahead) (λ straight.
      let from = e_ahead.right in
      let none = mul-zero ly ex (omega linear) in
      let same = *ℤ_comm ly ex in
      let product = mul-pos ey lx (e_ahead.up straight) more in
      absurd (omega linear))

  -- f, which leads straight up, lies to the left of an e that does not
  left_of_right : fx ≤ℤ pos 0 → pos 0 <ℤ ex → pos 0 <ℤ turn ex ey fx fy
  left_of_right straight more =
      let from = f_ahead.right in
      let none = mul-zero ey fx (omega linear) in
      let product = mul-pos ex fy more (f_ahead.up straight) in
      omega linear

  -- l to the left of e, and f not to the right of l: f lies to the left of e
  pub turned_on : pos 0 <ℤ turn ex ey lx ly → pos 0 ≤ℤ turn lx ly fx fy → pos 0 <ℤ turn ex ey fx fy
  turned_on first second = by_lt_z (pos 0) lx wide straight
    where
      wide : pos 0 <ℤ lx → pos 0 <ℤ turn ex ey fx fy
      wide more = by_lt_z (pos 0) fx
          (λ f_more. let sum = turns in
          let of_e = mul-nonneg ex (turn lx ly fx fy) e_ahead.right second in
          let of_f = mul-pos fx (turn ex ey lx ly) f_more first in
          pos_of_mul-pos lx (turn ex ey fx fy) more (omega linear))
          (λ f_straight. left_of_right f_straight (e_right (omega linear) more))

      straight : lx ≤ℤ pos 0 → pos 0 <ℤ turn ex ey fx fy
      straight up =
          let from = l_ahead.right in
          let none = mul-zero ey lx (omega linear) in
          let same = *ℤ_comm ex ly in
          left_of_right (f_up up second) (pos_of_mul-pos ly ex (l_ahead.up up) (omega linear))

  -- l not to the right of e, and f to the left of l: f lies to the left of e
  pub turned_past : pos 0 ≤ℤ turn ex ey lx ly → pos 0 <ℤ turn lx ly fx fy → pos 0 <ℤ turn ex ey fx fy
  turned_past first second = by_lt_z (pos 0) lx wide straight
    where
      wide : pos 0 <ℤ lx → pos 0 <ℤ turn ex ey fx fy
      wide more =
          let sum = turns in
          let of_e = mul-pos ex (turn lx ly fx fy) (e_right first more) second in
          let of_f = mul-nonneg fx (turn ex ey lx ly) f_ahead.right first in
          pos_of_mul-pos lx (turn ex ey fx fy) more (omega linear)

      straight : lx ≤ℤ pos 0 → pos 0 <ℤ turn ex ey fx fy
      straight up =
          let l_from = l_ahead.right in
          let f_from = f_ahead.right in
          let l_none = mul-zero fy lx (omega linear) in
          let l_same = *ℤ_comm fy lx in
          let product = mul-nonneg ly fx (let some = l_ahead.up up in omega linear) f_from in
          absurd (omega linear)

-- ---- directions of edges

-- the direction of an edge leads ahead
ahead : (e : Edge) → IsBefore e.a e.b → IsAhead (e.b.x -ℤ e.a.x) (e.b.y -ℤ e.a.y)
ahead e before = record {
  right = let x = before.x in omega linear;
  up = λ straight. let y = before.y (omega linear) in omega linear;
}

-- exchanging the two edges changes the sign
exchanged : (e f : Edge) → across e f.a f.b ≡ neg_ℤ (across f e.a e.b)
exchanged e f = solve 8 (λ ax ay bx by cx cy dx dy. (bx ⊖ ax) ⊗ (dy ⊖ cy) ⊖ (by ⊖ ay) ⊗ (dx ⊖ cx)
    ≗ ⊝ ((dx ⊖ cx) ⊗ (by ⊖ ay) ⊖ (dy ⊖ cy) ⊗ (bx ⊖ ax))) tt e.a.x e.a.y e.b.x e.b.y f.a.x f.a.y f.b.x f.b.y

module _ (e l f : Edge) (e_before : IsBefore e.a e.b) (l_before : IsBefore l.a l.b) (f_before : IsBefore f.a f.b) where
  left_on : pos 0 <ℤ across e l.a l.b → pos 0 ≤ℤ across l f.a f.b → pos 0 <ℤ across e f.a f.b
  left_on = turned_on (e.b.x -ℤ e.a.x) (e.b.y -ℤ e.a.y) (l.b.x -ℤ l.a.x) (l.b.y -ℤ l.a.y) (f.b.x -ℤ f.a.x)
      (f.b.y -ℤ f.a.y) (ahead e e_before) (ahead l l_before) (ahead f f_before)

  left_past : pos 0 ≤ℤ across e l.a l.b → pos 0 <ℤ across l f.a f.b → pos 0 <ℤ across e f.a f.b
  left_past = turned_past (e.b.x -ℤ e.a.x) (e.b.y -ℤ e.a.y) (l.b.x -ℤ l.a.x) (l.b.y -ℤ l.a.y) (f.b.x -ℤ f.a.x)
      (f.b.y -ℤ f.a.y) (ahead e e_before) (ahead l l_before) (ahead f f_before)

-- ---- two edges that share an end

-- the ways of f's ends across e differ by that of f
across_ends : (e f : Edge) → cross_at e.a e.b f.b ≡ cross_at e.a e.b f.a +ℤ across e f.a f.b
across_ends e f = solve 8 (λ ax ay bx by cx cy dx dy. crossE ax ay bx by dx dy ≗ crossE ax ay bx by cx cy
    ⊕ ((bx ⊖ ax) ⊗ (dy ⊖ cy) ⊖ (by ⊖ ay) ⊗ (dx ⊖ cx))) tt e.a.x e.a.y e.b.x e.b.y f.a.x f.a.y f.b.x f.b.y

-- an end of an edge lies on its line
end_on_line : (e : Edge) (v : Point) → IsEndpoint e v → cross_at e.a e.b v ≡ pos 0
end_on_line e v (inl same) = subst (λ (w : Point). cross_at e.a e.b w ≡ pos 0) (sym same) (cross_at_first e.a e.b)
end_on_line e v (inr same) = subst (λ (w : Point). cross_at e.a e.b w ≡ pos 0) (sym same) (cross_at_same e.a e.b)

-- with different directions they lie across each other
turned_across : (e f : Edge) (v : Point) → IsEndpoint e v → IsEndpoint f v →
    (pos 0 <ℤ across e f.a f.b) ⊎ (across e f.a f.b <ℤ pos 0) → IsAcross e f
turned_across e f v of_e of_f turned = by of_f turned
  where
    on_line : cross_at e.a e.b v ≡ pos 0
    on_line = end_on_line e v of_e

    by : IsEndpoint f v → (pos 0 <ℤ across e f.a f.b) ⊎ (across e f.a f.b <ℤ pos 0) → IsAcross e f
    by (inl same) way =
        let start : cross_at e.a e.b f.a ≡ pos 0 = subst (λ (w : Point). cross_at e.a e.b w ≡ pos 0) same on_line in
        let sum = across_ends e f in
        from_start start sum way
      where
        from_start : cross_at e.a e.b f.a ≡ pos 0 → cross_at e.a e.b f.b ≡ cross_at e.a e.b f.a +ℤ across e f.a f.b →
            (pos 0 <ℤ across e f.a f.b) ⊎ (across e f.a f.b <ℤ pos 0) → IsAcross e f
        from_start start sum (inl left) = inl (omega linear, omega linear, omega linear)
        from_start start sum (inr right) = inr (omega linear, omega linear, omega linear)
    by (inr same) way =
        let end : cross_at e.a e.b f.b ≡ pos 0 = subst (λ (w : Point). cross_at e.a e.b w ≡ pos 0) same on_line in
        let sum = across_ends e f in
        from_end end sum way
      where
        from_end : cross_at e.a e.b f.b ≡ pos 0 → cross_at e.a e.b f.b ≡ cross_at e.a e.b f.a +ℤ across e f.a f.b →
            (pos 0 <ℤ across e f.a f.b) ⊎ (across e f.a f.b <ℤ pos 0) → IsAcross e f
        from_end end sum (inl left) = inl (omega linear, omega linear, omega linear)
        from_end end sum (inr right) = inr (omega linear, omega linear, omega linear)

-- ---- fans

-- an edge beside a fan meets the edges of the fan in their end alone
pub settled_round : (limit : ℕ) (fan : Fan) (e f : CountedEdge) → IsHeld limit e → IsHeldFan limit fan →
    HoldsRound fan f → IsBesideFan fan e → AreSettled e f
settled_round limit fan e f e_held held holds beside =
    let both = holds beside.corner beside.round in
    sharing_meet_in_ends (ends_of e) (ends_of f) beside.corner
    (turned_across (ends_of e) (ends_of f) beside.corner beside.ends both.0 (by both.1 beside.aside))
    beside.ends both.0
  where
    e_before : IsBefore e.a e.b
    e_before = (Decides-point_lt e.a e.b).0 e_held.forward

    by : IsInFan fan f → IsTurnedAside fan e →
        (pos 0 <ℤ across (ends_of e) f.a f.b) ⊎ (across (ends_of e) f.a f.b <ℤ pos 0)
    by inside (inl lower) =
        let low = inside.low in
        let turn_back = exchanged fan.lowest (ends_of f) in
        inl (left_on (ends_of e) fan.lowest (ends_of f) e_before
        ((Decides-point_lt fan.lowest.a fan.lowest.b).0 held.lowest.forward)
        ((Decides-point_lt f.a f.b).0 inside.forward) lower (omega linear))
    by inside (inr higher) =
        let high = inside.high in
        let turn_back = exchanged (ends_of f) fan.highest in
        let past = left_past (ends_of f) fan.highest (ends_of e)
        ((Decides-point_lt f.a f.b).0 inside.forward)
        ((Decides-point_lt fan.highest.a fan.highest.b).0 held.highest.forward) e_before (omega linear) higher in
        let back = exchanged (ends_of e) (ends_of f) in
        inr (omega linear)

-- the fan of an edge holds it
pub own_fan : (limit : ℕ) (e : CountedEdge) → IsHeld limit e → HoldsRound (record {
  is_at_a = true;
  is_at_b = true;
  lowest = ends_of e;
  highest = ends_of e;
  along = ends_of e;
}) e
own_fan limit e held corner round = (ends round, record { forward = held.forward; low = level; high = level })
  where
    level : across (ends_of e) e.a e.b ≤ℤ pos 0
    level = let same = exchanged (ends_of e) (ends_of e) in omega linear

    ends : ((true ≡ true) × (corner ≡ e.a)) ⊎ ((true ≡ true) × (corner ≡ e.b)) → EndsIn e corner
    ends (inl (is, same)) = inl same
    ends (inr (is, same)) = inr same

-- edges that all share an end, and one edge more with the range of directions widened by it
module _ (limit : ℕ) (old turned : Fan) (is_at_a is_at_b : Bool) (e : CountedEdge) where
  -- the fan with this range
  abbrev pub narrowed : Fan
  narrowed = record {
    is_at_a = is_at_a;
    is_at_b = is_at_b;
    lowest = turned.lowest;
    highest = turned.highest;
    along = old.along;
  }

  in_narrowed : (f : CountedEdge) → IsInFan turned f → IsInFan narrowed f
  in_narrowed f it = record { forward = it.forward; low = it.low; high = it.high }

  pub narrowed_held : IsHeldFan limit turned → IsHeldFan limit narrowed
  narrowed_held it = record { lowest = it.lowest; highest = it.highest }

  pub narrowed_holds : IsInFan turned e → (is_at_a ≡ true → EndsIn e old.along.a) →
      (is_at_b ≡ true → EndsIn e old.along.b) → HoldsRound narrowed e
  narrowed_holds inside ends_a ends_b corner round = (ends round, in_narrowed e inside)
    where
      ends : IsFanRound narrowed corner → EndsIn e corner
      ends (inl (is, same)) = subst (λ (v : Point). EndsIn e v) (sym same) (ends_a is)
      ends (inr (is, same)) = subst (λ (v : Point). EndsIn e v) (sym same) (ends_b is)

  pub narrowed_keeps : (is_at_a ≡ true → old.is_at_a ≡ true) → (is_at_b ≡ true → old.is_at_b ≡ true) →
      ((f : CountedEdge) → IsInFan old f → IsInFan turned f) → IsFanWidened old narrowed
  narrowed_keeps was_a was_b wider f holds corner round =
      let both = holds corner (before round) in
      (both.0, in_narrowed f (wider f both.1))
    where
      before : IsFanRound narrowed corner → IsFanRound old corner
      before (inl (is, same)) = inl (was_a is, same)
      before (inr (is, same)) = inr (was_b is, same)

-- where the edges share no end, the fan says nothing
pub holds_none : (fan : Fan) (e : CountedEdge) → fan.is_at_a ≡ false → fan.is_at_b ≡ false → HoldsRound fan e
holds_none fan e not_a not_b corner (inl (is, same)) = absurd (false≢true (sym not_a ∙ is))
holds_none fan e not_a not_b corner (inr (is, same)) = absurd (false≢true (sym not_b ∙ is))

-- ---- a range of directions widened

-- an extreme edge is replaced by an edge farther out, or stays where that is not farther out
abbrev pub IsTurnedTo : Type 0 → Edge → Edge → Edge → Type 0
IsTurnedTo farther old e new = (farther × (new ≡ e)) ⊎ ((¬ farther) × (new ≡ old))

module _ (limit : ℕ) (old : Fan) (e : CountedEdge) (held : IsHeldFan limit old) (e_held : IsHeld limit e)
    (lowest highest : Edge)
    (lower : IsTurnedTo (IsLeftOfParallel (ends_of e) old.lowest.a old.lowest.b) old.lowest (ends_of e) lowest)
    (higher : IsTurnedTo (IsLeftOfParallel old.highest e.a e.b) old.highest (ends_of e) highest) where
  -- the fan with these extreme edges
  abbrev pub turned_fan : Fan
  turned_fan = record {
    is_at_a = old.is_at_a;
    is_at_b = old.is_at_b;
    lowest = lowest;
    highest = highest;
    along = old.along;
  }

  e_long : IsLongEdge limit (ends_of e)
  e_long = record { forward = e_held.forward; a_in_range = e_held.a_in_range; b_in_range = e_held.b_in_range }

  -- one of two edges that are long is long
  either_long : {farther : Type 0} (was new : Edge) → IsLongEdge limit was → IsTurnedTo farther was (ends_of e) new →
      IsLongEdge limit new
  either_long was new long (inl (farther, is)) = subst (IsLongEdge limit) (sym is) e_long
  either_long was new long (inr (nearer, is)) = subst (IsLongEdge limit) (sym is) long

  pub turned_held : IsHeldFan limit turned_fan
  turned_held = record {
    lowest = either_long old.lowest lowest held.lowest lower;
    highest = either_long old.highest highest held.highest higher;
  }

  e_before : IsBefore e.a e.b
  e_before = (Decides-point_lt e.a e.b).0 e_held.forward

  -- no edge lies to the left of itself
  level : across (ends_of e) e.a e.b ≤ℤ pos 0
  level = let same = exchanged (ends_of e) (ends_of e) in omega linear

  -- the edge is in the range
  pub turned_in : IsInFan turned_fan e
  turned_in = record { forward = e_held.forward; low = low lower; high = high higher }
    where
      low : IsTurnedTo (IsLeftOfParallel (ends_of e) old.lowest.a old.lowest.b) old.lowest (ends_of e) lowest →
          across (ends_of e) lowest.a lowest.b ≤ℤ pos 0
      low (inl (farther, is)) = subst (λ (l : Edge). across (ends_of e) l.a l.b ≤ℤ pos 0) (sym is) level
      low (inr (nearer, is)) = subst (λ (l : Edge). across (ends_of e) l.a l.b ≤ℤ pos 0) (sym is)
          (by_lt_z (pos 0) (across (ends_of e) old.lowest.a old.lowest.b) (λ more. absurd (nearer more)) (λ not. not))

      high : IsTurnedTo (IsLeftOfParallel old.highest e.a e.b) old.highest (ends_of e) highest →
          across highest e.a e.b ≤ℤ pos 0
      high (inl (farther, is)) = subst (λ (h : Edge). across h e.a e.b ≤ℤ pos 0) (sym is) level
      high (inr (nearer, is)) = subst (λ (h : Edge). across h e.a e.b ≤ℤ pos 0) (sym is)
          (by_lt_z (pos 0) (across old.highest e.a e.b) (λ more. absurd (nearer more)) (λ not. not))

  -- those in the old range are in the new
  pub turned_keeps : (f : CountedEdge) → IsInFan old f → IsInFan turned_fan f
  turned_keeps f inside = record { forward = inside.forward; low = low lower; high = high higher }
    where
      f_before : IsBefore f.a f.b
      f_before = (Decides-point_lt f.a f.b).0 inside.forward

      low : IsTurnedTo (IsLeftOfParallel (ends_of e) old.lowest.a old.lowest.b) old.lowest (ends_of e) lowest →
          across (ends_of f) lowest.a lowest.b ≤ℤ pos 0
      low (inl (farther, is)) = subst (λ (l : Edge). across (ends_of f) l.a l.b ≤ℤ pos 0) (sym is)
          (let was = inside.low in
          let turn_back = exchanged old.lowest (ends_of f) in
          let left = left_on (ends_of e) old.lowest (ends_of f) e_before
          ((Decides-point_lt old.lowest.a old.lowest.b).0 held.lowest.forward) f_before farther (omega linear) in
          let back = exchanged (ends_of f) (ends_of e) in
          omega linear)
      low (inr (nearer, is)) = subst (λ (l : Edge). across (ends_of f) l.a l.b ≤ℤ pos 0) (sym is) inside.low

      high : IsTurnedTo (IsLeftOfParallel old.highest e.a e.b) old.highest (ends_of e) highest →
          across highest f.a f.b ≤ℤ pos 0
      high (inl (farther, is)) = subst (λ (h : Edge). across h f.a f.b ≤ℤ pos 0) (sym is)
          (let was = inside.high in
          let turn_back = exchanged (ends_of f) old.highest in
          let left = left_past (ends_of f) old.highest (ends_of e) f_before
          ((Decides-point_lt old.highest.a old.highest.b).0 held.highest.forward) e_before (omega linear) farther in
          let back = exchanged (ends_of e) (ends_of f) in
          omega linear)
      high (inr (nearer, is)) = subst (λ (h : Edge). across h f.a f.b ≤ℤ pos 0) (sym is) inside.high
