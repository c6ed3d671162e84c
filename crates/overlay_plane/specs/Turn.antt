-- Turning at a node: the next step by a hand, and orbits.
use Rattle.std.specs.Prelude.{◌≡◌, ◌≢◌, ℕ, ◌+◌, ◌<◌, Bool, true, false, cond, ◌&&◌, ◌||◌, ◌==◌, nat_lt}
use Rattle.std.specs.Prelude.{ℤ, pos, ◌+ℤ◌, ◌-ℤ◌, ◌*ℤ◌, int_lt, List, length, All, Contains}
use Rattle.overlay_geom.specs.Plane.{Point, Step, cross_at}
use Rattle.overlay_geom.specs.Thinned.{item_round}

-- the side of an arriving step through which a walk turns at its end
pub data Hand : Type 0 where
  left : Hand
  right : Hand

-- the hand of the other side
abbrev pub other_hand : Hand → Hand
other_hand left = right
other_hand right = left

-- the hand is the left hand
abbrev pub is_left_hand : Hand → Bool
is_left_hand left = true
is_left_hand right = false

-- positive where a ray at v that turns by the hand from p comes to q before it has made a half turn. From the back of
-- an arriving step the way through its left side is clockwise
abbrev pub turn : Hand → Point → Point → Point → ℤ
turn left v p q = cross_at v q p
turn right v p q = cross_at v p q

-- the inner product of the vectors from v to p and from v to q
abbrev pub dot_at : Point → Point → Point → ℤ
dot_at v p q = (p.x -ℤ v.x) *ℤ (q.x -ℤ v.x) +ℤ (p.y -ℤ v.y) *ℤ (q.y -ℤ v.y)

-- the part of the turn in which a ray at v that turns by the hand from u meets p. It is 0 within the first half turn, 1
-- straight ahead, 2 within the second half turn, 3 at u again
abbrev pub part_of_turn : Hand → Point → Point → Point → ℕ
part_of_turn hand v u p = cond (int_lt (pos 0) (turn hand v u p)) 0
    (cond (int_lt (turn hand v u p) (pos 0)) 2 (cond (int_lt (dot_at v u p) (pos 0)) 1 3))

-- a ray at v that turns by the hand from u meets p before q; u itself comes last
abbrev pub is_met_before : Hand → Point → Point → Point → Point → Bool
is_met_before hand v u p q =
    nat_lt (part_of_turn hand v u p) (part_of_turn hand v u q)
    || (part_of_turn hand v u p == part_of_turn hand v u q && int_lt (pos 0) (turn hand v p q))

-- a ray at v that turns by the hand from u meets p before q, as a fact
abbrev pub IsMetBefore : Hand → Point → Point → Point → Point → Type 0
IsMetBefore hand v u p q = is_met_before hand v u p q ≡ true

-- t is the first step that leaves the end of s, met by a ray that turns there by the hand from the way back along s
pub record IsNextStep (steps : List Step) (hand : Hand) (s t : Step) : Type 0 where
  pub among : Contains steps t
  pub leaves : t.from ≡ s.to
  pub first : All (λ u. u.from ≡ s.to → is_met_before hand s.to s.from u.to t.to ≡ false) steps

-- a placeholder where there is no step
abbrev pub no_step : Step
no_step = record { from = record { x = pos 0; y = pos 0 }; to = record { x = pos 0; y = pos 0 } }

-- the step at place k of a closed walk
abbrev pub step_round : List Step → ℕ → Step
step_round ss k = item_round ss no_step k

-- the walk is the orbit of its first step: each step is followed by its next step, until the first step comes again
pub record IsOrbit (steps : List Step) (hand : Hand) (walk : List Step) : Type 0 where
  pub some : 0 < length walk
  pub goes_on : (k : ℕ) → k < length walk → IsNextStep steps hand (step_round walk k) (step_round walk (k + 1))
  pub once : (k : ℕ) → 0 < k → k < length walk → step_round walk k ≢ step_round walk 0
