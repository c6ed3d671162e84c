-- The two ways in which grid lines run: how far a point lies across them and along them, and which points a ray that
-- turns by the left hand meets first.
use lib.IntN.{*ℤ_comm}
use Rattle.std.proofs.Common.{◌≡◌, ◌⊎◌, inl, inr, ℤ, pos, ◌+ℤ◌, ◌-ℤ◌, ◌*ℤ◌, neg_ℤ, ◌<ℤ◌, ◌≤ℤ◌, sym, ap₂, ◌∙◌, arith}
use Rattle.overlay_geom.specs.Plane.{Point}
use Rattle.overlay_geom.proofs.Identities.{solve, ◌⊕◌, ◌⊗◌, ◌⊖◌, ⊝◌, ◌≗◌}
use Rattle.overlay_geom.proofs.Signs.{linear, mul-pos, mul-neg, mul-zero}
use Rattle.overlay_plane.specs.Turn.{turn, dot_at, part_of_turn, IsMetBefore}
use Rattle.overlay_plane.specs.Turn.Hand.{left}
use Rattle.overlay_plane.proofs.TurnOrder.{by_part, part_early, part_opposite, first_by_part, first_by_turn}
use Rattle.overlay_plane.proofs.Turning.{both_negative}

-- upright lines, or level ones
pub data Axis : Type 0 where
  of_uprights : Axis
  of_levels : Axis

-- how far the point lies to the right, or up
abbrev pub across : Axis → Point → ℤ
across of_uprights p = p.x
across of_levels p = p.y

-- how far it lies down along an upright line, or to the right along a level one
abbrev pub along : Axis → Point → ℤ
along of_uprights p = neg_ℤ p.y
along of_levels p = p.x

-- the point lies before the line across it, or on it at a place behind this one
abbrev pub IsBehind : Axis → Point → Point → Type 0
IsBehind axis v t = (across axis t <ℤ across axis v)
    ⊎ ((across axis t ≡ across axis v) × (along axis t <ℤ along axis v))

-- the point lies beyond the line, or on it at a place behind this one
abbrev pub IsBeyond : Axis → Point → Point → Type 0
IsBeyond axis v u = (across axis v <ℤ across axis u)
    ⊎ ((across axis u ≡ across axis v) × (along axis u <ℤ along axis v))

-- points that lie as far across and along are one
pub one_point : (axis : Axis) (p q : Point) → across axis p ≡ across axis q → along axis p ≡ along axis q → p ≡ q
one_point of_uprights p q a l = let y : p.y ≡ q.y = omega linear in ap₂ (λ x y. record { x = x; y = y }) a y
one_point of_levels p q a l = ap₂ (λ x y. record { x = x; y = y }) l a

-- ---- turns by the left hand, across and along

abbrev far : Axis → Point → Point → ℤ
far axis v p = across axis p -ℤ across axis v

abbrev on : Axis → Point → Point → ℤ
on axis v p = along axis p -ℤ along axis v

turn_is : (axis : Axis) (v p q : Point) →
    turn left v p q ≡ far axis v p *ℤ on axis v q -ℤ on axis v p *ℤ far axis v q
turn_is of_uprights v p q = solve 6 (λ vx vy px py qx qy. (qx ⊖ vx) ⊗ (py ⊖ vy) ⊖ (qy ⊖ vy) ⊗ (px ⊖ vx)
    ≗ (px ⊖ vx) ⊗ ((⊝ qy) ⊖ (⊝ vy)) ⊖ ((⊝ py) ⊖ (⊝ vy)) ⊗ (qx ⊖ vx)) tt v.x v.y p.x p.y q.x q.y
turn_is of_levels v p q = solve 6 (λ vx vy px py qx qy. (qx ⊖ vx) ⊗ (py ⊖ vy) ⊖ (qy ⊖ vy) ⊗ (px ⊖ vx)
    ≗ (py ⊖ vy) ⊗ (qx ⊖ vx) ⊖ (px ⊖ vx) ⊗ (qy ⊖ vy)) tt v.x v.y p.x p.y q.x q.y

dot_is : (axis : Axis) (v p q : Point) →
    dot_at v p q ≡ far axis v p *ℤ far axis v q +ℤ on axis v p *ℤ on axis v q
dot_is of_uprights v p q = solve 6 (λ vx vy px py qx qy. (px ⊖ vx) ⊗ (qx ⊖ vx) ⊕ (py ⊖ vy) ⊗ (qy ⊖ vy)
    ≗ (px ⊖ vx) ⊗ (qx ⊖ vx) ⊕ ((⊝ py) ⊖ (⊝ vy)) ⊗ ((⊝ qy) ⊖ (⊝ vy))) tt v.x v.y p.x p.y q.x q.y
dot_is of_levels v p q = solve 6 (λ vx vy px py qx qy. (px ⊖ vx) ⊗ (qx ⊖ vx) ⊕ (py ⊖ vy) ⊗ (qy ⊖ vy)
    ≗ (py ⊖ vy) ⊗ (qy ⊖ vy) ⊕ (px ⊖ vx) ⊗ (qx ⊖ vx)) tt v.x v.y p.x p.y q.x q.y

module _ (v u m t : Point) where
  -- within the first half turn a point is met before those beyond it, and those to which a turn leads on
  pub early_first : pos 0 <ℤ turn left v u m → (pos 0 <ℤ turn left v u t → pos 0 <ℤ turn left v m t) →
      IsMetBefore left v u m t
  early_first early on_to =
      let here = part_early (turn left v u m) (dot_at v u m) early in
      by_part (turn left v u t) (dot_at v u t)
      (λ there e. first_by_turn (part_of_turn left v u m) (part_of_turn left v u t)
      (turn left v m t) (here ∙ sym e) (on_to there))
      (λ level back e. first_by_part (part_of_turn left v u m) (part_of_turn left v u t)
      (turn left v m t) (omega arith))
      (λ late e. first_by_part (part_of_turn left v u m) (part_of_turn left v u t)
      (turn left v m t) (omega arith))
      (λ level again e. first_by_part (part_of_turn left v u m) (part_of_turn left v u t)
      (turn left v m t) (omega arith))

  -- straight ahead a point is met before those beyond it
  pub ahead_first : turn left v u m ≡ pos 0 → dot_at v u m <ℤ pos 0 → turn left v u t ≤ℤ pos 0 →
      (turn left v u t ≡ pos 0 → pos 0 ≤ℤ dot_at v u t) → IsMetBefore left v u m t
  ahead_first level back not_early behind =
      let here = part_opposite (turn left v u m) (dot_at v u m) level back in
      by_part (turn left v u t) (dot_at v u t)
      (λ there e. absurd (omega linear))
      (λ level_t back_t e. let on_side = behind level_t in absurd (omega linear))
      (λ late e. first_by_part (part_of_turn left v u m) (part_of_turn left v u t)
      (turn left v m t) (omega arith))
      (λ level_t again e. first_by_part (part_of_turn left v u m) (part_of_turn left v u t)
      (turn left v m t) (omega arith))

module _ (axis : Axis) (v u m t : Point) (on_line : across axis m ≡ across axis v)
    (ahead : along axis v <ℤ along axis m)
    (beyond : IsBeyond axis v u) (behind : IsBehind axis v t) where
  -- there is no way across to m
  none_across : far axis v m ≡ pos 0
  none_across = omega linear

  -- from beyond the line
  from_beyond : across axis v <ℤ across axis u → IsMetBefore left v u m t
  from_beyond past =
      let to_m = turn_is axis v u m in
      let no_m = mul-zero (on axis v u) (far axis v m) none_across in
      let early = mul-pos (far axis v u) (on axis v m) (omega linear) (omega linear) in
      early_first v u m t (omega linear) (onward behind)
    where
      onward : IsBehind axis v t → pos 0 <ℤ turn left v u t → pos 0 <ℤ turn left v m t
      onward (inl before) there =
          let to_t = turn_is axis v m t in
          let none = mul-zero (on axis v t) (far axis v m) none_across in
          let same = *ℤ_comm (far axis v m) (on axis v t) in
          let back = mul-neg (on axis v m) (far axis v t) (omega linear) (omega linear) in
          omega linear
      onward (inr (level, less)) there =
          let to_t = turn_is axis v u t in
          let none = mul-zero (on axis v u) (far axis v t) (omega linear) in
          let back = mul-neg (far axis v u) (on axis v t) (omega linear) (omega linear) in
          absurd (omega linear)

  -- from behind on the line
  from_line : across axis u ≡ across axis v → along axis u <ℤ along axis v → IsMetBefore left v u m t
  from_line level less =
      let none : far axis v u ≡ pos 0 = omega linear in
      let to_m = turn_is axis v u m in
      let no_m = mul-zero (on axis v u) (far axis v m) none_across in
      let no_u = mul-zero (on axis v m) (far axis v u) none in
      let same_m = *ℤ_comm (far axis v u) (on axis v m) in
      let at_m = dot_is axis v u m in
      let no_far = mul-zero (far axis v u) (far axis v m) none_across in
      let back = mul-neg (on axis v m) (on axis v u) (omega linear) (omega linear) in
      let same_back = *ℤ_comm (on axis v u) (on axis v m) in
      ahead_first v u m t (omega linear) (omega linear) (late behind) (again behind)
    where
      none : far axis v u ≡ pos 0
      none = omega linear

      turned : turn left v u t ≡ neg_ℤ (on axis v u *ℤ far axis v t)
      turned =
          let to_t = turn_is axis v u t in
          let no_u = mul-zero (on axis v t) (far axis v u) none in
          let same = *ℤ_comm (far axis v u) (on axis v t) in
          omega linear

      late : IsBehind axis v t → turn left v u t ≤ℤ pos 0
      late (inl before) =
          let positive = both_negative (on axis v u) (far axis v t) (omega linear) (omega linear) in
          let is = turned in
          omega linear
      late (inr (level_t, less_t)) =
          let zero = mul-zero (on axis v u) (far axis v t) (omega linear) in
          let is = turned in
          omega linear

      again : IsBehind axis v t → turn left v u t ≡ pos 0 → pos 0 ≤ℤ dot_at v u t
      again (inl before) e =
          let positive = both_negative (on axis v u) (far axis v t) (omega linear) (omega linear) in
          let is = turned in
          absurd (omega linear)
      again (inr (level_t, less_t)) e =
          let at_t = dot_is axis v u t in
          let zero = mul-zero (far axis v u) (far axis v t) (omega linear) in
          let positive = both_negative (on axis v u) (on axis v t) (omega linear) (omega linear) in
          omega linear

  -- from beyond the line or behind on it, a point ahead on it is met before one that is not beyond or ahead
  pub line_met_first : IsMetBefore left v u m t
  line_met_first = by beyond
    where
      by : IsBeyond axis v u → IsMetBefore left v u m t
      by (inl past) = from_beyond past
      by (inr (level, less)) = from_line level less
