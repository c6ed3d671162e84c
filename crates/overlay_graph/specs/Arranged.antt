-- Facts of a list of counted edges that was brought into an arrangement, and of a list that was not.
use Rattle.std.specs.Prelude.{◌≡◌, ℕ, ◌≤◌, ◌^◌, List, length}
use Rattle.overlay_geom.specs.Edges.{CountedEdge}
use Rattle.overlay_geom.specs.declared.error.OverlayError.{OverlayError}
use Rattle.overlay_geom.specs.declared.error.OverlayError.TheVariants.{Memory, NotSettled, TooManyEdges, Failed}
use Rattle.overlay_geom.specs.declared.solver.Solver.{Solver}
use Rattle.overlay_geom.specs.declared.solver.Solver.TheVariants.{Rounds, Snapping}
use Rattle.overlay_plane.specs.Arrangements.{IsReachedBy, IsSplit, IsExact, LeaveLightPieces}
use Rattle.overlay_plane.specs.Arrangements.{StaysUnsettled, WeighsTooMuch}
use Rattle.overlay_plane.specs.Balance.{HasBalancedCounts}
use Rattle.overlay_plane.specs.Carried.{Carried, edges_in}
use Rattle.overlay_plane.specs.ChainLinks.{ChainsHold}
use Rattle.overlay_plane.specs.DerivedData.{AreDerived}
use Rattle.overlay_plane.specs.FarPoints.{KeepsFarPoints}
use Rattle.overlay_plane.specs.FarSides.{KeepsFarSides, KeepsSidesBeside}
use Rattle.overlay_plane.specs.Meetings.{MeetInWholePoints}
use Rattle.overlay_plane.specs.Rounds.{Round, MovingRounds}

-- the greatest number of rounds that the solver takes
abbrev pub most_rounds : Solver → ℕ
most_rounds Rounds = 64
most_rounds Snapping = 1

-- the list is an arrangement already
abbrev pub WasArranged : List CountedEdge → Type 0
WasArranged es =
    (solver : Solver) × (before : List CountedEdge) × (earlier : List Round) × IsReachedBy solver earlier before es

-- the second list is an arrangement of the first, reached by the solver's rounds
pub record IsArranged (solver : Solver) (old new : List CountedEdge) : Type 0 where
  pub rounds : List Round
  pub few : length rounds ≤ most_rounds solver
  pub reached : IsReachedBy solver rounds old new
  pub light : LeaveLightPieces rounds
  -- the number of rounds that moved some point
  pub moving : ℕ
  pub moved : MovingRounds rounds moving
  pub few_moving : moving ≤ most_rounds solver
  -- the chains of the edges keep their ends, stay within half a unit for each moving round, and make the counts
  pub chains : ChainsHold rounds moving old new
  -- where the edges meet only in whole points or overlap, there is at most one round, no point moves, and no winding
  -- changes
  pub exact : MeetInWholePoints old → IsExact rounds moving old new
  -- at each point more than half a unit for each moving round away from the edges, in x or in y, there is no edge, and
  -- no winding changes
  pub far : KeepsFarPoints moving old new
  -- each side's winding stays where its own edges alone are so far, and by snap rounding where none of them has a point
  -- in the unit square round the point
  pub far_sides : KeepsFarSides moving old new
  pub beside : solver ≡ Snapping → KeepsSidesBeside old new
  pub balanced : HasBalancedCounts old → HasBalancedCounts new
  -- an arrangement stays as it is
  pub stays : WasArranged old → new ≡ old

-- the solver reaches the second list from the first in `most` rounds or fewer, and the values of its edges derive along
-- these rounds
pub record IsSplitCarrying {C : Type 0} (merges : C → C → C → Type 0) (splits reverses : C → C → Type 0)
    (solver : Solver) (most : ℕ) (old new : List (Carried C)) : Type 0 where
  pub split : IsSplit solver most (edges_in old) (edges_in new)
  pub derived : AreDerived merges splits reverses split.rounds old new

-- the second list is an arrangement of the first, and the values of its edges derive along the rounds that lead there
pub record IsArrangedCarrying {C : Type 0} (merges : C → C → C → Type 0) (splits reverses : C → C → Type 0)
    (solver : Solver) (old new : List (Carried C)) : Type 0 where
  pub arranged : IsArranged solver (edges_in old) (edges_in new)
  pub derived : AreDerived merges splits reverses arranged.rounds old new

-- all cutting rounds leave edges that are not settled. The edges did not meet in whole points alone, and were not an
-- arrangement already
pub record CannotBeSettled (es : List CountedEdge) : Type 0 where
  pub unsettled : StaysUnsettled (most_rounds Rounds) es
  pub not_whole : ¬ (MeetInWholePoints es)
  pub not_arranged : ¬ (WasArranged es)

-- a round of the solver leaves pieces that weigh 2^31; the edges were not an arrangement already
pub record IsSplitTooMuch (solver : Solver) (es : List CountedEdge) : Type 0 where
  pub heavy : WeighsTooMuch solver (most_rounds solver) (2 ^ 31) es
  pub not_arranged : ¬ (WasArranged es)

-- possible refusals to bring the edges into an arrangement; snap rounding never refuses as not settled
abbrev pub MayRefuseSplitting : Solver → List CountedEdge → OverlayError → Type 0
MayRefuseSplitting solver es Memory = Unit {0}
MayRefuseSplitting solver es NotSettled = (solver ≡ Rounds) × CannotBeSettled es
MayRefuseSplitting solver es TooManyEdges = IsSplitTooMuch solver es
MayRefuseSplitting solver es Failed = ⊥
