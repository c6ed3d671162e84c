-- The arrangement of a list of counted edges: the result of a run of cutting rounds, merged, in order and settled.
use Rattle.std.specs.Prelude.{◌≡◌, ℕ, ◌≤◌, ◌<◌, ◌^◌, List, All, length}
use Rattle.overlay_geom.specs.Edges.{CountedEdge, ends_of, weight}
use Rattle.overlay_geom.specs.Merged.{IsMerged, HaveSameWindings}
use Rattle.overlay_geom.specs.Settled.{IsSettled}
use Rattle.overlay_geom.specs.declared.solver.Solver.{Solver}
use Rattle.overlay_geom.specs.declared.solver.Solver.TheVariants.{Rounds}
use Rattle.overlay_plane.specs.Balance.{HasBalancedCounts}
use Rattle.overlay_plane.specs.ChainLinks.{ChainsHold}
use Rattle.overlay_plane.specs.CutPoints.{cut_edges}
use Rattle.overlay_plane.specs.EdgeLists.{IsForwardBy}
use Rattle.overlay_plane.specs.Meetings.{MeetInWholePoints}
use Rattle.overlay_plane.specs.RoundLists.{AreRounds}
use Rattle.overlay_plane.specs.Rounds.{Round, IsRound, pieces_of, after_rounds, MovingRounds}

-- these rounds of the solver bring the first list to the second, which is merged, in order and settled
pub record IsReachedBy (solver : Solver) (rounds : List Round) (old new : List CountedEdge) : Type 0 where
  pub cut : AreRounds solver old rounds
  pub merged : IsMerged (after_rounds old rounds) new
  pub settled : IsSettled new

-- the pieces that each of the rounds leaves weigh less than 2^31
abbrev pub LeaveLightPieces : List Round → Type 0
LeaveLightPieces rounds = All (λ r. weight (pieces_of r) < 2 ^ 31) rounds

-- the solver reaches the second list from the first in `most` rounds or fewer, each of which leaves light pieces
pub record IsSplit (solver : Solver) (most : ℕ) (old new : List CountedEdge) : Type 0 where
  pub rounds : List Round
  pub few : length rounds ≤ most
  pub reached : IsReachedBy solver rounds old new
  pub light : LeaveLightPieces rounds

-- `most` cutting rounds leave edges that are not settled
pub record StaysUnsettled (most : ℕ) (old : List CountedEdge) : Type 0 where
  pub rounds : List Round
  pub all_taken : length rounds ≡ most
  pub cut : AreRounds Rounds old rounds
  pub left : List CountedEdge
  pub merged : IsMerged (after_rounds old rounds) left
  pub unsettled : ¬ (IsSettled left)

-- the pieces that a round of the solver leaves weigh the limit or more; at most `most` rounds are taken
pub record WeighsTooMuch (solver : Solver) (most limit : ℕ) (old : List CountedEdge) : Type 0 where
  pub rounds : List Round
  pub some : 1 ≤ length rounds
  pub few : length rounds ≤ most
  pub cut : AreRounds solver old rounds
  pub heavy : limit ≤ weight (after_rounds old rounds)

-- at most one round was taken, it moved no point, and no winding changed
pub record IsExact (rounds : List Round) (k : ℕ) (old new : List CountedEdge) : Type 0 where
  pub one_round : length rounds ≤ 1
  pub none_moved : k ≡ 0
  pub windings : HaveSameWindings old new

-- ---- laws

-- the chains of the edges from which an arrangement was reached hold
abbrev pub ArrangementsHoldChains : Type 0
ArrangementsHoldChains = (solver : Solver) (rounds : List Round) (k : ℕ) (old new : List CountedEdge) →
    IsForwardBy ends_of old → IsReachedBy solver rounds old new →
    MovingRounds rounds k → ChainsHold rounds k old new

-- where edges meet only in whole points or overlap, the arrangement is exact, and more than one round cannot be taken
pub record WholeMeetingsAreExact : Type 0 where
  pub exact : (solver : Solver) (rounds : List Round) (k : ℕ) (old new : List CountedEdge) → IsForwardBy ends_of old →
      MeetInWholePoints old →
      IsReachedBy solver rounds old new → MovingRounds rounds k → IsExact rounds k old new
  pub few : (solver : Solver) (rounds : List Round) (old : List CountedEdge) → IsForwardBy ends_of old →
      MeetInWholePoints old → AreRounds solver old rounds → length rounds ≤ 1

-- an arrangement keeps balanced counts
abbrev pub ArrangementsKeepBalance : Type 0
ArrangementsKeepBalance = (solver : Solver) (rounds : List Round) (old new : List CountedEdge) →
    IsReachedBy solver rounds old new → HasBalancedCounts old → HasBalancedCounts new

-- an arrangement of an arrangement is an equal list, whichever solvers reach the two
abbrev pub ArrangedStaysArranged : Type 0
ArrangedStaysArranged = (first second : Solver) (rounds again : List Round) (old new newer : List CountedEdge) →
    IsReachedBy first rounds old new → IsReachedBy second again new newer → newer ≡ new

-- a merged list of forward edges that is not settled, cut through the points computed pair by pair, is the result of a
-- cutting round
abbrev pub CuttingIsARound : Type 0
CuttingIsARound = (old es : List CountedEdge) → IsForwardBy ends_of es → IsMerged old es → ¬ (IsSettled es) →
    (r : Round) × IsRound old r × (pieces_of r ≡ cut_edges es)
