-- Changes that keep the winding of a walk at every point: leaving out points straight between their neighbours, and
-- starting elsewhere. A closed list has one thinning, but for where it begins.
use Rattle.std.specs.Prelude.{◌≡◌, ℕ, ◌+◌, ◌-◌, ◌<◌, ℤ, pos, ◌+ℤ◌, ◌-ℤ◌, ◌*ℤ◌, ◌<ℤ◌, List, ◌++◌, length, remove}
use Rattle.overlay_geom.specs.Plane.{Point, PlanePoint, steps_between, steps_of, winding}
use Rattle.overlay_geom.specs.Thinned.{IsOnOneLine, IsStraightAt, IsThinned, point_round}

-- for three collinear points, the steps from the first to the second and on to the third have the windings of the
-- direct step
abbrev pub StepsOnOneLineWindAlike : Type 0
StepsOnOneLineWindAlike = (u v w : Point) → IsOnOneLine u v w → (p : PlanePoint) →
    winding (steps_between u v ++ steps_between v w) p ≡ winding (steps_between u w) p

-- a closed list of points keeps its windings wherever it begins
abbrev pub RotatingKeepsWindings : Type 0
RotatingKeepsWindings = (ps qs : List Point) (p : PlanePoint) → winding (steps_of (qs ++ ps)) p ≡ winding
    (steps_of (ps ++ qs)) p

-- a closed list keeps its windings without a point that is straight between its two neighbours
abbrev pub DroppingKeepsWindings : Type 0
DroppingKeepsWindings = (ps : List Point) (k : ℕ) → k < length ps → IsStraightAt ps k → (p : PlanePoint) →
    winding (steps_of (remove ps k)) p ≡ winding (steps_of ps) p

-- a thinned list has the windings of the list before thinning
abbrev pub ThinningKeepsWindings : Type 0
ThinningKeepsWindings = (ps qs : List Point) → IsThinned ps qs →
    (p : PlanePoint) → winding (steps_of qs) p ≡ winding (steps_of ps) p

-- ---- one thinning

-- the closed lists are one, but for where they begin
pub record AreOneRound (ps qs : List Point) : Type 0 where
  pub front : List Point
  pub rest : List Point
  pub before : ps ≡ front ++ rest
  pub after : qs ≡ rest ++ front

-- thinnings of closed lists that are one, but for where they begin, are one likewise
abbrev pub OneThinning : Type 0
OneThinning = (ps qs : List Point) → AreOneRound ps qs → (first second : List Point) → IsThinned ps first →
    IsThinned qs second → AreOneRound first second

-- the product of the vectors from u to v and from v to w: positive where the way goes on at v
abbrev pub ahead : Point → Point → Point → ℤ
ahead u v w = (v.x -ℤ u.x) *ℤ (w.x -ℤ v.x) +ℤ (v.y -ℤ u.y) *ℤ (w.y -ℤ v.y)

-- the closed list goes on at each point that is collinear with its two neighbours
abbrev pub HasNoSpikes : List Point → Type 0
HasNoSpikes ps = (k : ℕ) → k < length ps → IsStraightAt ps k →
    pos 0 <ℤ ahead (point_round ps (k + length ps - 1)) (point_round ps k) (point_round ps (k + 1))

-- a closed list without spikes has one thinning
abbrev pub OneThinningWithoutSpikes : Type 0
OneThinningWithoutSpikes = (ps : List Point) → HasNoSpikes ps → (first second : List Point) → IsThinned ps first →
    IsThinned ps second → first ≡ second
