-- The whole points through which the edges of a list are led, each with the place of its edge.
use Rattle.std.specs.Prelude.{◌≡◌, ◌⊎◌, ℕ, ◌<◌, ◌≤◌, ℤ, List, [], ◌∷◌, ◌++◌, map, length}
use Rattle.std.specs.Prelude.{All, AllPairs, Contains}
use Rattle.overlay_geom.specs.Plane.{Point, Edge, steps_through}
use Rattle.overlay_geom.specs.Edges.{CountedEdge, ends_of}
use Rattle.overlay_geom.specs.Points.{plain_point, InRange}
use Rattle.overlay_plane.specs.CutPoints.{comes_first, cut_points, met_at}
use Rattle.overlay_plane.specs.InOrder.{in_order}
use Rattle.overlay_pairs.specs.Places.{IsAt}
use Rattle.overlay_arrange.specs.Cut.{chain_by, IsEndOf, IsOnLineOf, LeadingPoints}
use Rattle.overlay_arrange.specs.declared.meetings.Meeting.{Meeting as HeldMeeting}

-- a whole point through which the edge at the place is led
pub record Meeting : Type 0 where
  pub place : ℕ
  pub point : Point

-- the meeting with a whole point, for a meeting of the program
abbrev pub plain_meeting : {I : Type 0} → (I → ℤ) → HeldMeeting I → Meeting
plain_meeting whole m = record { place = m.place; point = plain_point whole m.point }

-- the meetings for a list of meetings of the program
abbrev pub plain_meetings : {I : Type 0} → (I → ℤ) → List (HeldMeeting I) → List Meeting
plain_meetings whole ms = map (plain_meeting whole) ms

-- v is an end of the edge e at place i, or a meeting of it
abbrev pub IsEndOrMet : List Meeting → ℕ → CountedEdge → Point → Type 0
IsEndOrMet ms i e v = IsEndOf e v ⊎ Contains ms (record { place = i; point = v })

-- ---- adding

-- the points are added as meetings of the edge e at place i; its own ends may be left out
pub record AddsPoints (i : ℕ) (e : CountedEdge) (vs : List Point) (old new : List Meeting) : Type 0 where
  pub kept : (m : Meeting) → Contains old m → Contains new m
  pub led : (m : Meeting) → Contains new m → Contains old m ⊎ ((m.place ≡ i) × Contains vs m.point)
  pub all : (v : Point) → Contains vs v → IsEndOrMet new i e v

-- the points through which the edges e at place i and f at place j lead each other are added
pub record AddsBoth (i : ℕ) (e : CountedEdge) (j : ℕ) (f : CountedEdge) (old new : List Meeting) : Type 0 where
  pub between : List Meeting
  pub one : AddsPoints i e (met_at (ends_of e) (ends_of f)) old between
  pub other : AddsPoints j f (met_at (ends_of f) (ends_of e)) between new

-- ---- gathering

-- the meetings of the edges at such pairs of places: all of them, except perhaps the edges' own ends
pub record AreGathered (es : List CountedEdge) (Pair : ℕ → ℕ → Type 0) (ms : List Meeting) : Type 0 where
  pub led : (m : Meeting) → Contains ms m →
      (e : CountedEdge) × IsAt es m.place e × Contains (cut_points es e) m.point
  pub all : (i j : ℕ) (e f : CountedEdge) → IsAt es i e → IsAt es j f → Pair i j → (v : Point) →
      Contains (met_at (ends_of e) (ends_of f)) v → IsEndOrMet ms i e v

-- at least one of the two places comes before place n
abbrev pub HasBefore : ℕ → ℕ → ℕ → Type 0
HasBefore n i j = (i < n) ⊎ (j < n)

-- the meetings of all edges of the list
abbrev pub AreMeetings : List CountedEdge → List Meeting → Type 0
AreMeetings es ms = AreGathered es (HasBefore (length es)) ms

-- the meetings are sorted by their places
abbrev pub AreByPlace : List Meeting → Type 0
AreByPlace ms = AllPairs (λ m n. m.place ≤ n.place) ms

-- ---- taking

-- the meetings of the edge at place i are those from `low` up to `high`
pub record IsRunAt (ms : List Meeting) (i low high : ℕ) : Type 0 where
  pub ordered : low ≤ high
  pub within : high ≤ length ms
  pub from : (k : ℕ) (m : Meeting) → low ≤ k → k < high → IsAt ms k m → m.place ≡ i
  pub all : (k : ℕ) (m : Meeting) → IsAt ms k m → m.place ≡ i → (low ≤ k) × (k < high)

-- the points are those of the meetings of the edge at place i, in their order along it
pub record ArePointsAt (ms : List Meeting) (i : ℕ) (e : Edge) (vs : List Point) : Type 0 where
  pub from : (v : Point) → Contains vs v → Contains ms (record { place = i; point = v })
  pub all : (v : Point) → Contains ms (record { place = i; point = v }) → Contains vs v
  pub points : List Point
  pub order : vs ≡ in_order (comes_first e) points

-- the meetings lie in the coordinate range
abbrev pub AreInRange : ℕ → List Meeting → Type 0
AreInRange limit ms = All (λ m. InRange limit m.point) ms

-- the meetings of each edge, in their order along it, make the chain through its points
abbrev pub AreLedAlong : List CountedEdge → List Meeting → LeadingPoints → Type 0
AreLedAlong es ms points = (i : ℕ) (e : CountedEdge) → IsAt es i e → (vs : List Point) →
    ArePointsAt ms i (ends_of e) vs → steps_through e.a (vs ++ e.b ∷ []) ≡ chain_by points e

-- the meeting lies on the line of the edge at its place
abbrev pub IsOnItsLine : List CountedEdge → Meeting → Type 0
IsOnItsLine es m = (e : CountedEdge) → IsAt es m.place e → IsOnLineOf e m.point
