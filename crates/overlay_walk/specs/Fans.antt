-- Fans: the steps that leave each node, in the order in which a ray meets them; their places, and those that are open.
use Rattle.std.specs.Prelude.{◌≡◌, ℕ, ◌<◌, ◌≤◌, Bool, true, false, ◌&&◌, ◌||◌, List, length, slice_index_or, AllPairs}
use Rattle.std.specs.Prelude.{Option, Some, None, All, pos, ◌+ℤ◌}
use Rattle.overlay_geom.specs.Plane.{Point, Step, point_lt, point_eq}
use Rattle.overlay_plane.specs.Turn.{Hand, left, right, is_met_before}
use Rattle.overlay_walk.specs.Places.{is_open, step_at, HasBelow}
use Rattle.overlay_walk.specs.declared.fans.Fans.{Fans}
use Rattle.overlay_walk.specs.declared.fans.FansByHand.{FansByHand}

-- the point next to v on its right
abbrev pub right_of : Point → Point
right_of v = record { x = v.x +ℤ pos 1; y = v.y }

-- a ray at v that turns by the hand from the right meets p before q
abbrev pub is_met_from_right : Hand → Point → Point → Point → Bool
is_met_from_right hand v p q = is_met_before hand v (right_of v) p q

-- the step s stands before t: it leaves a smaller point, or the same point and such a ray meets it before t
abbrev pub stands_before : Hand → Step → Step → Bool
stands_before hand s t = point_lt s.from t.from || (point_eq s.from t.from && is_met_from_right hand s.from s.to t.to)

-- the places of the steps, in this order
pub record AreFanned (hand : Hand) (ss : List Step) (fanned : List ℕ) : Type 0 where
  pub within : All (λ k. k < length ss) fanned
  pub all : HasBelow (length ss) fanned
  pub order : AllPairs (λ j k. stands_before hand (step_at ss k) (step_at ss j) ≡ false) fanned

-- the places with the indices from low up to high are not open
abbrev pub AreTaken : List Bool → List ℕ → ℕ → ℕ → Type 0
AreTaken marks fanned low high = (i : ℕ) → low ≤ i → i < high → i < length fanned →
    is_open marks (slice_index_or fanned i 0) ≡ false

-- they are not open from each index up to the index that is noted for it
abbrev pub AreTakenAhead : List Bool → List ℕ → List ℕ → Type 0
AreTakenAhead marks fanned ahead = (low : ℕ) → AreTaken marks fanned low (slice_index_or ahead low 0)

-- the index of the first open place from an index on, or no index of a place
pub record StopsAt (marks : List Bool) (fanned : List ℕ) (low at : ℕ) : Type 0 where
  pub from : low ≤ at
  pub taken : AreTaken marks fanned low at
  pub ends : at < length fanned → is_open marks (slice_index_or fanned at 0) ≡ true

-- the first open place from an index on, and its step leaves p
pub record IsFirstLeaving (ss : List Step) (marks : List Bool) (fanned : List ℕ) (low : ℕ) (p : Point) (k : ℕ) : Type 0
  where
    pub at : ℕ
    pub stops : StopsAt marks fanned low at
    pub below : at < length fanned
    pub is : k ≡ slice_index_or fanned at 0
    pub leaves : (step_at ss k).from ≡ p

-- there is none, or its step leaves another point
pub record HasNoneLeaving (ss : List Step) (marks : List Bool) (fanned : List ℕ) (low : ℕ) (p : Point) : Type 0 where
  pub at : ℕ
  pub stops : StopsAt marks fanned low at
  pub leaves_other : at < length fanned → ¬ ((step_at ss (slice_index_or fanned at 0)).from ≡ p)

abbrev pub IsFirstIfLeaving : List Step → List Bool → List ℕ → ℕ → Point → Option ℕ → Type 0
IsFirstIfLeaving ss marks fanned low p None = HasNoneLeaving ss marks fanned low p
IsFirstIfLeaving ss marks fanned low p (Some k) = IsFirstLeaving ss marks fanned low p k

-- the places, if there are any, are those of the steps in the order of their fans by the hand, and the notes are right
pub record AreFansBy {A : Type 0} (hand : Hand) (ss : List Step) (marks : List Bool) (fans : Fans A) : Type 0 where
  pub placed : 0 < length fans.places.items → AreFanned hand ss fans.places.items
  pub each : length fans.ahead.items ≡ length fans.places.items
  pub noted : AreTakenAhead marks fans.places.items fans.ahead.items

-- for either hand
pub record AreFans {A : Type 0} (ss : List Step) (marks : List Bool) (fans : FansByHand A) : Type 0 where
  pub by_left : AreFansBy left ss marks fans.by_left
  pub by_right : AreFansBy right ss marks fans.by_right
