-- The round that a solver takes of merged edges that are not settled, and the chains along which it leads them.
use Rattle.std.proofs.Common.{◌≡◌, inl, inr, List, Contains, sym, subst, ◌∙◌}
use Rattle.std.specs.List.{flat_map}
use Rattle.overlay_geom.specs.Edges.{CountedEdge, ends_of}
use Rattle.overlay_geom.specs.Merged.{IsMerged}
use Rattle.overlay_geom.specs.Plane.{Step}
use Rattle.overlay_geom.specs.Settled.{IsSettled}
use Rattle.overlay_geom.specs.declared.solver.Solver.{Solver}
use Rattle.overlay_geom.specs.declared.solver.Solver.TheVariants.{Rounds, Snapping}
use Rattle.overlay_plane.specs.CutPoints.{cut_edges}
use Rattle.overlay_plane.specs.DerivedData.{computed_chain}
use Rattle.overlay_plane.specs.EdgeLists.{IsForwardBy}
use Rattle.overlay_plane.specs.Meetings.{MeetInWholePoints}
use Rattle.overlay_plane.specs.RoundLists.{IsRoundBy}
use Rattle.overlay_plane.specs.Rounds.{Round, IsRound, chain_of, pieces_of}
use Rattle.overlay_plane.specs.Cutting.{pieces_through}
use Rattle.overlay_plane.proofs.CuttingRounds.{cutting_through}
use Rattle.overlay_plane.proofs.MeetingPieces.{meeting_steps_pass_pixels}
use Rattle.overlay_plane.proofs.SnappedEdges.{snapping_through}
use Rattle.overlay_plane.proofs.SnapsSettle.{snaps_settle_by}
use Rattle.overlay_arrange.specs.Cut.{chain_by, LeadingPoints}
use Rattle.overlay_arrange.specs.Snapping.{AreLedBySnapping}
use Rattle.overlay_arrange.specs.Snapping.AreLedBySnapping.{cut, snapped}
use Rattle.overlay_arrange.proofs.RoundsTaken.{Leaves}
use Rattle.overlay_arrange.proofs.WholeMeetings.{settled_where_whole}

-- the solver takes a round of the list, which merges it into these edges, leads each along its chain, and leaves the
-- pieces
pub record TakesRound (solver : Solver) (old es left : List CountedEdge) (chain : CountedEdge → List Step) : Type 0
  where
    pub taken : Round
    pub is : IsRoundBy solver old taken
    pub leaves : pieces_of taken ≡ left
    pub edges : taken.edges ≡ es
    pub chains : (e : CountedEdge) → Contains es e → chain_of taken e ≡ chain e

-- the round leaves these pieces
pub leaves_of_taken : (solver : Solver) (old es left : List CountedEdge) (chain : CountedEdge → List Step) →
    TakesRound solver old es left chain → Leaves solver old left
leaves_of_taken solver old es left chain takes = (takes.taken, takes.is, takes.leaves)

module _ (old es : List CountedEdge) (forward : IsForwardBy ends_of es) (merged : IsMerged old es)
    (unsettled : ¬ (IsSettled es)) where
  -- a solver that takes a cutting round leaves the edges cut where they meet
  cut_by : (solver : Solver) → ((r : Round) → r.edges ≡ es → IsRound old r → IsRoundBy solver old r) →
      (left : List CountedEdge) → left ≡ cut_edges es → TakesRound solver old es left (computed_chain es)
  cut_by solver takes left is =
      let through = cutting_through old es forward merged unsettled in
      let cuts = through.1 in
      record {
        taken = through.0;
        is = takes through.0 cuts.edges cuts.is;
        leaves = cuts.leaves ∙ sym is;
        edges = cuts.edges;
        chains = cuts.chains;
      }

  -- the solver by rounds takes this round
  pub cut_in_rounds : (left : List CountedEdge) → left ≡ cut_edges es →
      TakesRound Rounds old es left (computed_chain es)
  cut_in_rounds = cut_by Rounds (λ r edges round. round)

  -- snap rounding takes this round where the edges meet in whole points alone. Else it leads them through hot points
  pub led_by_snapping : (points : LeadingPoints) → AreLedBySnapping es points → (left : List CountedEdge) →
      left ≡ flat_map (pieces_through points) es → TakesRound Snapping old es left (chain_by points)
  led_by_snapping _ (cut whole) left is =
      cut_by Snapping (λ r edges round. inl (subst MeetInWholePoints (sym edges) whole, round)) left is
  led_by_snapping _ (snapped not_whole) left is =
      let through = snapping_through old es forward merged unsettled in
      let snaps = through.1 in
      record {
        taken = through.0;
        is = inr (subst (λ gs. ¬ (MeetInWholePoints gs)) (sym snaps.edges) not_whole, snaps.is);
        leaves = snaps.leaves ∙ sym is;
        edges = snaps.edges;
        chains = snaps.chains;
      }

  -- the pieces, merged, are settled
  pub settled_by_snapping : IsForwardBy ends_of old → (points : LeadingPoints) → AreLedBySnapping es points →
      (left new : List CountedEdge) → left ≡ flat_map (pieces_through points) es → IsMerged left new → IsSettled new
  settled_by_snapping old_forward _ (cut whole) left new is merged_left =
      settled_where_whole old es left new forward merged unsettled whole is merged_left
  settled_by_snapping old_forward _ (snapped not_whole) left new is merged_left =
      let through = snapping_through old es forward merged unsettled in
      let snaps = through.1 in
      snaps_settle_by meeting_steps_pass_pixels old new through.0 old_forward snaps.is
      (subst (λ gs. IsMerged gs new) (is ∙ sym snaps.leaves) merged_left)
