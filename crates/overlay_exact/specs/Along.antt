-- The meeting points of one edge with others: which they are, and their order along the edge.
use Rattle.std.specs.Prelude.{◌≡◌, ◌⊎◌, cond, ℕ, ◌≤◌, ℤ, ◌*ℤ◌, List, ◌++◌, map, All, AllPairs}
use Rattle.std.specs.List.{Any}
use Rattle.std.specs.Ordering.{int_cmp, nat_cmp, ordering_then}
use Rattle.std.specs.declared.cmp.Ordering.{Ordering}
use Rattle.overlay_geom.specs.Plane.{Point, PlanePoint, Edge, SamePlace, point_lt}
use Rattle.overlay_plane.specs.Meetings.{IsMeetingPoint}
use Rattle.overlay_plane.specs.Rounds.{IsSmaller}
use Rattle.overlay_exact.specs.Parts.{Fraction, fraction, IsPart, IsLess, LiesAt}
use Rattle.overlay_exact.specs.declared.met.MetAlong.{MetAlong}

-- a meeting point of an edge: the part of it at which the point lies, and the number of the edge that it meets there
pub record Met : Type 0 where
  pub part : Fraction
  pub other : ℕ

-- the meeting point for one of the program
abbrev pub plain_met : {W : Type 0} {w : _} → (W → ℤ) → MetAlong W w → Met
plain_met whole m = record { part = fraction whole m.part.n m.part.d; other = m.other }

-- the meeting points for a list of the program
abbrev pub plain_mets : {W : Type 0} {w : _} → (W → ℤ) → List (MetAlong W w) → List Met
plain_mets whole ms = map (plain_met whole) ms

-- ---- order

-- the comparison of two meeting points: by parts, then by numbers
abbrev pub met_cmp : Met → Met → Ordering
met_cmp m n = ordering_then (int_cmp (m.part.n *ℤ n.part.d) (n.part.n *ℤ m.part.d)) (nat_cmp m.other n.other)

-- the point of m on e is smaller than that of n, by x and then by y; or the two are equal, and m's number is no greater
abbrev pub IsUpToAlong : Edge → Met → Met → Type 0
IsUpToAlong e m n = (p q : PlanePoint) → LiesAt e m.part p → LiesAt e n.part q →
    IsSmaller p q ⊎ (SamePlace p q × (m.other ≤ n.other))

-- each meeting point of e comes up to all later ones, so equal points stand side by side
abbrev pub AreInOrderAlong : Edge → List Met → Type 0
AreInOrderAlong e ms = AllPairs (IsUpToAlong e) ms

-- ---- adding

-- e and f have a meeting point at this part of e
pub record AreMetAt (e f : Edge) (s : Fraction) : Type 0 where
  pub part : IsPart s
  pub point : PlanePoint
  pub meets : IsMeetingPoint e f point
  pub place : LiesAt e s point

-- the meeting points of e with f are added under f's number, each once
pub record AddsMet (e f : Edge) (other : ℕ) (old new : List Met) : Type 0 where
  pub added : List Met
  pub after : new ≡ old ++ added
  pub each : All (λ m. (m.other ≡ other) × AreMetAt e f m.part) added
  pub every : (p : PlanePoint) → IsMeetingPoint e f p → Any (λ m. LiesAt e m.part p) added
  pub once : AllPairs (λ m n. IsLess m.part n.part) added

-- the larger of the smaller ends of two edges
abbrev pub overlap_start : Edge → Edge → Point
overlap_start e f = cond (point_lt e.a f.a) f.a e.a

-- the smaller of the larger ends of two edges
abbrev pub overlap_end : Edge → Edge → Point
overlap_end e f = cond (point_lt f.b e.b) f.b e.b
