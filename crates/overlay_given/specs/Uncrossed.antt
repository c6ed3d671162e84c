-- Where the edges of a list meet: edges that cross, and lists of which no edges do.
use Rattle.std.specs.Prelude.{◌≡◌, ◌↔◌, true, false, ℕ, ◌<◌, ◌≤◌, List, Contains}
use Rattle.overlay_geom.specs.Edges.{CountedEdge, ends_of}
use Rattle.overlay_geom.specs.Settled.{IsSettled}
use Rattle.overlay_plane.specs.Meetings.{MeetInWholePoints}
use Rattle.overlay_pairs.specs.Places.{IsAt}
use Rattle.overlay_given.specs.Crossing.{cross}
use Rattle.overlay_given.specs.declared.uncrossed.MeetingKind.{MeetingKind}
use Rattle.overlay_given.specs.declared.uncrossed.MeetingKind.TheVariants.{InEnds, Uncrossed, Crossed}

-- two edges of the list cross
abbrev pub SomeCross : List CountedEdge → Type 0
SomeCross es = (e : CountedEdge) × (f : CountedEdge) × Contains es e × Contains es f
    × (cross (ends_of e) (ends_of f) ≡ true)

-- no two edges of the list cross
abbrev pub NoneCross : List CountedEdge → Type 0
NoneCross es = (e f : CountedEdge) → Contains es e → Contains es f → cross (ends_of e) (ends_of f) ≡ false

-- the edge at place i crosses no later edge
abbrev pub CrossesNoneBehind : List CountedEdge → ℕ → Type 0
CrossesNoneBehind es i = (k : ℕ) (e f : CountedEdge) → i < k → IsAt es i e → IsAt es k f →
    cross (ends_of e) (ends_of f) ≡ false

-- it crosses a later edge
abbrev pub CrossesSomeBehind : List CountedEdge → ℕ → Type 0
CrossesSomeBehind es i = (k : ℕ) × (e : CountedEdge) × (f : CountedEdge) × (i < k) × IsAt es i e × IsAt es k f
    × (cross (ends_of e) (ends_of f) ≡ true)

-- the edge e crosses none of those from place `from` up to `to`
abbrev pub CrossesNoneOf : List CountedEdge → CountedEdge → ℕ → ℕ → Type 0
CrossesNoneOf es e from to = (k : ℕ) (f : CountedEdge) → from ≤ k → k < to → IsAt es k f →
    cross (ends_of e) (ends_of f) ≡ false

-- it crosses one of them
abbrev pub CrossesSomeOf : List CountedEdge → CountedEdge → ℕ → ℕ → Type 0
CrossesSomeOf es e from to = (k : ℕ) × (f : CountedEdge) × (from ≤ k) × (k < to) × IsAt es k f
    × (cross (ends_of e) (ends_of f) ≡ true)

-- the edges meet so. Where none cross, they meet in whole points alone
pub record IsKindOf (es : List CountedEdge) (kind : MeetingKind) : Type 0 where
  pub ends : (kind ≡ InEnds) ↔ IsSettled es
  pub crossed : (kind ≡ Crossed) ↔ SomeCross es
  pub whole : kind ≡ Uncrossed → MeetInWholePoints es
