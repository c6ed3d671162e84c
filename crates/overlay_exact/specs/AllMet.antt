-- The meeting points of the edges of a list with each other, for each edge in their order along it.
use Rattle.std.specs.Prelude.{◌≡◌, ◌≢◌, ℕ, ◌+◌, ◌<◌, ◌≤◌, List, length, slice_range, All, AllPairs}
use Rattle.std.specs.List.{Any}
use Rattle.overlay_geom.specs.Edges.{CountedEdge, ends_of}
use Rattle.overlay_geom.specs.Plane.{PlanePoint}
use Rattle.overlay_plane.specs.Meetings.{IsMeetingPoint}
use Rattle.overlay_pairs.specs.Places.{IsAt}
use Rattle.overlay_exact.specs.Along.{Met, AreMetAt, AreInOrderAlong}
use Rattle.overlay_exact.specs.Parts.{AreEqual, LiesAt}

-- ---- one edge

-- the edge e, at place i, meets another edge before place n: it stands at m's number, and they meet at m's part of e
pub record IsMetBefore (es : List CountedEdge) (n i : ℕ) (e : CountedEdge) (m : Met) : Type 0 where
  pub before : m.other < n
  pub other : m.other ≢ i
  pub edge : CountedEdge
  pub at : IsAt es m.other edge
  pub met : AreMetAt (ends_of e) (ends_of edge) m.part

-- m tells that e meets the edge at place j in p
abbrev pub TellsOf : CountedEdge → ℕ → PlanePoint → Met → Type 0
TellsOf e j p m = (m.other ≡ j) × LiesAt (ends_of e) m.part p

-- the two tell of different edges, or of different points
abbrev pub AreDifferent : Met → Met → Type 0
AreDifferent m n = m.other ≡ n.other → ¬ (AreEqual m.part n.part)

-- all meeting points of the edge e, at place i, with the other edges before place n, each once
pub record AreMetBefore (es : List CountedEdge) (n i : ℕ) (e : CountedEdge) (ms : List Met) : Type 0 where
  pub each : All (IsMetBefore es n i e) ms
  pub every : (j : ℕ) (f : CountedEdge) (p : PlanePoint) → j < n → j ≢ i → IsAt es j f →
      IsMeetingPoint (ends_of e) (ends_of f) p → Any (TellsOf e j p) ms
  pub once : AllPairs AreDifferent ms

-- all meeting points of the edge e, at place i, with the other edges, each once and in their order along e
pub record AreMetOf (es : List CountedEdge) (i : ℕ) (e : CountedEdge) (ms : List Met) : Type 0 where
  pub all : AreMetBefore es (length es) i e ms
  pub order : AreInOrderAlong (ends_of e) ms

-- ---- all edges

-- the meeting points of the first n edges stand in one list, those of each edge from its start up to the next start
pub record AreMetByStarts (es : List CountedEdge) (n : ℕ) (starts : List ℕ) (ms : List Met) : Type 0 where
  pub count : length starts ≡ n + 1
  pub first : IsAt starts 0 0
  pub last : IsAt starts n (length ms)
  pub rises : AllPairs (λ s t. s ≤ t) starts
  pub of_each : (i s t : ℕ) (e : CountedEdge) → IsAt es i e → IsAt starts i s → IsAt starts (i + 1) t →
      AreMetOf es i e (slice_range ms s t)
