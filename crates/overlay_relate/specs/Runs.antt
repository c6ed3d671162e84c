-- Which of the points that are asked for may lie in contours: those not wholly beside them.
use Rattle.std.specs.Prelude.{◌⊎◌, ℕ, ◌<◌, ◌≤◌, ℤ, ◌<ℤ◌, ◌≤ℤ◌, List, length, slice_index_or, All, AllPairs}
use Rattle.overlay_geom.specs.Plane.{Point}

-- the points stand by their abscissas
abbrev pub AreByX : List Point → Type 0
AreByX ps = AllPairs (λ p q. p.x ≤ℤ q.x) ps

-- q lies left of all of the points, or right of all of them
abbrev pub IsBeside : List Point → Point → Type 0
IsBeside ps q = All (λ p. q.x <ℤ p.x) ps ⊎ All (λ p. p.x <ℤ q.x) ps

-- from the one abscissa to the other one all of the points lie
pub record IsSpan (ps : List Point) (low high : ℤ) : Type 0 where
  pub ordered : low ≤ℤ high
  pub within : All (λ p. (low ≤ℤ p.x) × (p.x ≤ℤ high)) ps

-- the place is before the start, or from the end on
abbrev pub IsPastRun : (start end n : ℕ) → Type 0
IsPastRun start end n = (n < start) ⊎ (end ≤ n)

-- the places from the one start up to the one end, and those of the other run, are of those from i up to j
pub record IsHull (start end other_start other_end i j : ℕ) : Type 0 where
  pub ordered : i ≤ j
  pub within : (j ≤ end) ⊎ (j ≤ other_end)
  pub past : (n : ℕ) → IsPastRun i j n → IsPastRun start end n × IsPastRun other_start other_end n

-- of the points qs those that stand before the start, and those from the end on, lie beside each of the contours
pub record IsRunOver (contours : List (List Point)) (qs : List Point) (start end : ℕ) : Type 0 where
  pub ordered : start ≤ end
  pub within : end ≤ length qs
  pub beside : (n : ℕ) (d : Point) → n < length qs → IsPastRun start end n →
      All (λ ps. IsBeside ps (slice_index_or qs n d)) contours
