-- Cutting rounds: each merged edge of a list that is not settled is replaced by the chain of steps through its meeting
-- points.
use Rattle.std.specs.Prelude.{◌≡◌, ◌⊎◌, ℕ, zero, suc, ◌*ℤ◌, ◌<ℤ◌, List, [], ◌∷◌, ◌++◌, map, flat_map, All, AllPairs}
use Rattle.std.specs.Prelude.{Any}
use Rattle.overlay_geom.specs.Plane.{Point, PlanePoint, Step, SamePlace, IsAt, steps_through}
use Rattle.overlay_geom.specs.Edges.{CountedEdge}
use Rattle.overlay_geom.specs.Merged.{IsMerged}
use Rattle.overlay_geom.specs.Rounding.{IsRounding}
use Rattle.overlay_geom.specs.Settled.{IsSettled}
use Rattle.overlay_plane.specs.Cutting.{pieces_through}
use Rattle.overlay_plane.specs.Meetings.{MeetsAnother}

-- p is smaller than q: by x, then by y
abbrev pub IsSmaller : PlanePoint → PlanePoint → Type 0
IsSmaller p q = ((p.x *ℤ q.d) <ℤ (q.x *ℤ p.d)) ⊎ ((p.x *ℤ q.d ≡ q.x *ℤ p.d) × ((p.y *ℤ q.d) <ℤ (q.y *ℤ p.d)))

-- the points are exactly the meeting points of e with another edge of the list, each once, in their order along e
pub record IsCutAt (es : List CountedEdge) (e : CountedEdge) (ps : List PlanePoint) : Type 0 where
  pub ascending : AllPairs IsSmaller ps
  pub only : All (MeetsAnother es e) ps
  pub every : (p : PlanePoint) → MeetsAnother es e p → Any (SamePlace p) ps

-- a cutting round: the merged edges, the points at which it cuts each of them, and the whole point for each point of
-- the plane
pub record Round : Type 0 where
  pub edges : List CountedEdge
  pub cuts : CountedEdge → List PlanePoint
  pub whole_at : PlanePoint → Point

-- the whole points through which a round leads an edge
abbrev pub whole_cuts : Round → CountedEdge → List Point
whole_cuts r e = map r.whole_at (r.cuts e)

-- the chain that replaces an edge: the steps from a to b through the whole points of its cuts
abbrev pub chain_of : Round → CountedEdge → List Step
chain_of r e = steps_through e.a (whole_cuts r e ++ e.b ∷ [])

-- the edges that a round leaves: the pieces along the chains
abbrev pub pieces_of : Round → List CountedEdge
pieces_of r = flat_map (pieces_through (whole_cuts r)) r.edges

-- the round merges the edges, which are not settled, and cuts each of them at its meeting points
pub record IsRound (old : List CountedEdge) (r : Round) : Type 0 where
  pub merged : IsMerged old r.edges
  pub unsettled : ¬ (IsSettled r.edges)
  pub cut : All (λ e. IsCutAt r.edges e (r.cuts e)) r.edges
  pub rounding : IsRounding r.whole_at

-- the edges after all rounds
abbrev pub after_rounds : List CountedEdge → List Round → List CountedEdge
after_rounds es [] = es
after_rounds es (r ∷ rs) = after_rounds (pieces_of r) rs

-- the round moves some meeting point, or moves none
abbrev pub MovesSome : Round → Type 0
MovesSome r = Any (λ e. Any (λ p. ¬ (IsAt (r.whole_at p) p)) (r.cuts e)) r.edges

abbrev pub MovesNone : Round → Type 0
MovesNone r = All (λ e. All (λ p. IsAt (r.whole_at p) p) (r.cuts e)) r.edges

-- k of the rounds move some point
pub data MovingRounds : List Round → ℕ → Type 0 where
  none : MovingRounds [] zero
  exact : {r : Round} {rs : List Round} {k : ℕ} → MovesNone r → MovingRounds rs k → MovingRounds (r ∷ rs) k
  moving : {r : Round} {rs : List Round} {k : ℕ} → MovesSome r → MovingRounds rs k → MovingRounds (r ∷ rs) (suc k)
