-- Cutting rounds keep balanced counts, and keep lists that are merged and settled.
use Rattle.std.proofs.Common.{◌≡◌, ◌≤◌, List, [], ◌∷◌, length, subst, arith}
use Rattle.overlay_geom.specs.Edges.{CountedEdge}
use Rattle.overlay_geom.specs.Merged.{IsMerged}
use Rattle.overlay_geom.specs.Settled.{IsSettled}
use Rattle.overlay_geom.specs.declared.solver.Solver.{Solver}
use Rattle.overlay_geom.proofs.MergedOnce.{IsMerged-unique}
use Rattle.overlay_geom.proofs.Merging.{IsMerged-again}
use Rattle.overlay_plane.specs.Balance.{HasBalancedCounts}
use Rattle.overlay_plane.specs.RoundLists.{AreEachRounds, AreRounds}
use Rattle.overlay_plane.specs.Rounds.{Round, whole_cuts, pieces_of, after_rounds}
use Rattle.overlay_plane.specs.Arrangements.{IsReachedBy, ArrangementsKeepBalance, ArrangedStaysArranged}
use Rattle.overlay_plane.proofs.AnyRounds.{IsAnyRound, any_round, any_rounds}
use Rattle.overlay_plane.proofs.KeepingBalance.{merging_keeps_balance, cutting_keeps_balance}

-- the pieces of a round have balanced counts
balance_after_round : (old : List CountedEdge) (r : Round) → IsAnyRound old r → HasBalancedCounts old →
    HasBalancedCounts (pieces_of r)
balance_after_round old r round balanced = cutting_keeps_balance r.edges (whole_cuts r)
    (merging_keeps_balance old r.edges round.merged balanced)

-- the pieces of all rounds have balanced counts
balance_after_rounds : (old : List CountedEdge) (rounds : List Round) → AreEachRounds IsAnyRound old rounds →
    HasBalancedCounts old → HasBalancedCounts (after_rounds old rounds)
balance_after_rounds old [] cut balanced = balanced
balance_after_rounds old (r ∷ rounds) cut balanced = balance_after_rounds (pieces_of r) rounds cut.1
    (balance_after_round old r cut.0 balanced)

-- the law of balance
pub arrangements_keep_balance : ArrangementsKeepBalance
arrangements_keep_balance solver rounds old new reached balanced =
    merging_keeps_balance (after_rounds old rounds) new reached.merged
    (balance_after_rounds old rounds (any_rounds solver old rounds reached.cut) balanced)

-- a list that is merged and settled takes no round
pub no_round_on_settled : (old : List CountedEdge) (r : Round) → IsMerged old old → IsSettled old →
    ¬ (IsAnyRound old r)
no_round_on_settled old r merged settled round = round.unsettled
    (subst IsSettled (IsMerged-unique old old r.edges merged round.merged) settled)

-- no round can be taken on a list that was arranged
pub no_rounds_again : (first second : Solver) (earlier again : List Round) (before old : List CountedEdge) →
    IsReachedBy first earlier before old → AreRounds second old again → 1 ≤ length again → ⊥
no_rounds_again first second earlier [] before old reached cut some = omega arith
no_rounds_again first second earlier (r ∷ again) before old reached cut some =
    no_round_on_settled old r (IsMerged-again (after_rounds before earlier) old reached.merged) reached.settled
    (any_round second old r cut.0)

-- the law of arranging once more
pub arranged_stays_arranged : ArrangedStaysArranged
arranged_stays_arranged first second rounds again old new newer reached further = by again further
  where
    itself : IsMerged new new
    itself = IsMerged-again (after_rounds old rounds) new reached.merged

    by : (again : List Round) → IsReachedBy second again new newer → newer ≡ new
    by [] further = IsMerged-unique new newer new further.merged itself
    by (r ∷ again) further = absurd (no_round_on_settled new r itself reached.settled
        (any_round second new r further.cut.0))
