-- The winding of a side stays at points far from its own edges: edges without counts of the side add nothing to it,
-- before and after they are led elsewhere.
use lib.IntN.{*ℤ-zero}
use Rattle.std.proofs.Common.{◌≡◌, ◌⊎◌, inl, inr, ⊎_elim, ℕ, zero, suc, ◌≤◌, true, false, ℤ, pos, ◌+ℤ◌, ◌*ℤ◌}
use Rattle.std.proofs.Common.{List, [], ◌∷◌, length, Contains, refl, sym, ap, ap₂, ◌∙◌, subst, arith}
use Rattle.std.specs.List.{All}
use Rattle.std.proofs.lemmas.Bool.{cases_Bool}
use Rattle.std.proofs.lemmas.List.Elements.{All-contains, All-head, All-tail, All-weaker}
use Rattle.overlay_geom.specs.Plane.{PlanePoint, Step, Edge, IsOn, edge_eq, sign_of, total, point_lt}
use Rattle.overlay_geom.specs.Edges.{CountedEdge, ends_of, subj_of, clip_of, winding_by, counts_nothing}
use Rattle.overlay_geom.specs.Merged.{IsMerged, HaveSameWindings, edges_between, joined_edge}
use Rattle.overlay_geom.specs.declared.solver.Solver.{Solver}
use Rattle.overlay_geom.specs.declared.solver.Solver.TheVariants.{Snapping}
use Rattle.overlay_geom.proofs.Between.{edges_between-here, edges_between-past}
use Rattle.overlay_geom.proofs.MergedWindings.{windings_from_merged}
use Rattle.overlay_geom.proofs.Orders.{edge_eq-same}
use Rattle.overlay_geom.proofs.Signs.{mul-zero}
use Rattle.overlay_plane.specs.Arrangements.{IsReachedBy}
use Rattle.overlay_plane.specs.Cutting.{piece_along, pieces_through}
use Rattle.overlay_plane.specs.EdgeLists.{IsForwardBy}
use Rattle.overlay_plane.specs.FarPoints.{AreWithinHalves, IsFarFromEdge}
use Rattle.overlay_plane.specs.FarSides.{IsFarFromSide, IsBesideSide, KeepsFarSides, KeepsSidesBeside}
use Rattle.overlay_plane.specs.FarSides.{ArrangementsKeepFarSides, SnapsKeepSidesBeside}
use Rattle.overlay_plane.specs.RoundLists.{AreEachRounds, IsSnapRound}
use Rattle.overlay_plane.specs.Rounds.{Round, MovesNone, MovingRounds, after_rounds, chain_of, pieces_of, whole_cuts}
use Rattle.overlay_plane.specs.Rounds.MovingRounds.{none, exact, moving}
use Rattle.overlay_plane.specs.Snaps.{MeetsSquareRound}
use Rattle.overlay_plane.proofs.AnyRounds.{IsAnyRound, any_rounds}
use Rattle.overlay_plane.proofs.CutOnLines.{WindsAsBefore, winding_by-cut_counted}
use Rattle.overlay_plane.proofs.Entries.{Contains-from_map, Contains-from_flat_map, all_of_entries}
use Rattle.overlay_plane.proofs.ExactRounds.{winds_whole}
use Rattle.overlay_plane.proofs.FarPoints.{far_piece, near_by_moving, on_chain, winds_far, winds_still}
use Rattle.overlay_plane.proofs.OneArrangement.{pieces_forward}
use Rattle.overlay_plane.proofs.PieceCounts.{subj_of_piece, clip_of_piece}
use Rattle.overlay_plane.proofs.SnapWindings.{snapped_winds}
use Rattle.overlay_plane.proofs.WholeCuts.{CutsWhole, forward_merged, same_merged}

-- the numbers of a side: those of a piece are its edge's, and those of a merged edge a sum
pub record IsSide (count : CountedEdge → ℤ) : Type 0 where
  pub of_piece : (e : CountedEdge) (s : Step) → count (piece_along e s) ≡ sign_of s *ℤ count e
  pub joined : (es : List CountedEdge) (e : Edge) → count (joined_edge es e) ≡ total count (edges_between es e)
  pub merged : (old new : List CountedEdge) → IsMerged old new → (p : PlanePoint) →
      winding_by count new p ≡ winding_by count old p

subj_is_side : IsSide subj_of
subj_is_side = record {
  of_piece = subj_of_piece;
  joined = λ es e. refl;
  merged = λ old new merged. (windings_from_merged old new merged).subj;
}

clip_is_side : IsSide clip_of
clip_is_side = record {
  of_piece = clip_of_piece;
  joined = λ es e. refl;
  merged = λ old new merged. (windings_from_merged old new merged).clip;
}

-- p is more than k/2 away from the second edges that count, and this side winds round it as in the first
record StaysFarFromSide (count : CountedEdge → ℤ) (k : ℕ) (old new : List CountedEdge) (p : PlanePoint) : Type 0 where
  far : IsFarFromSide count k new p
  winds : winding_by count new p ≡ winding_by count old p

-- a fact of the ends of all edges that count
abbrev HoldsOfSide : (CountedEdge → ℤ) → (Edge → Type 0) → List CountedEdge → Type 0
HoldsOfSide count Holds es = All (λ e. (count e ≡ pos 0) ⊎ Holds (ends_of e)) es

module _ (count : CountedEdge → ℤ) (side : IsSide count) where
  -- ---- merged lists

  -- all edges with these ends count nothing together, or the fact holds of the ends
  none_or_holds : (Holds : Edge → Type 0) (es : List CountedEdge) (e : Edge) → HoldsOfSide count Holds es →
      (total count (edges_between es e) ≡ pos 0) ⊎ Holds e
  none_or_holds Holds [] e all = inl refl
  none_or_holds Holds (f ∷ es) e all =
      elim (none_or_holds Holds es e (All-tail (λ e. (count e ≡ pos 0) ⊎ Holds (ends_of e)) f es all)) [
        | inr holds ↦ inr holds
        | inl rest ↦ elim (cases_Bool (edge_eq (ends_of f) e)) [
          | inr other ↦ inl (ap (total count) (edges_between-past f es e other) ∙ rest)
          | inl same ↦ elim (All-head (λ e. (count e ≡ pos 0) ⊎ Holds (ends_of e)) f es all) [
            | inr holds ↦ inr (subst Holds (edge_eq-same (ends_of f) e same) holds)
            | inl zero_count ↦ inl (ap (total count) (edges_between-here f es e same)
                ∙ ap₂ (λ a b. a +ℤ b) zero_count rest)
          ]
        ]
      ]

  -- so it holds of the merged edges that count
  holds_merged : (Holds : Edge → Type 0) (old new : List CountedEdge) → IsMerged old new →
      HoldsOfSide count Holds old → HoldsOfSide count Holds new
  holds_merged Holds old new merged all = all_of_entries (λ e. (count e ≡ pos 0) ⊎ Holds (ends_of e)) new (λ g has.
      ⊎_elim (λ zero_count. inl (ap count
      (All-contains (λ e. (e ≡ joined_edge old (ends_of e)) × (counts_nothing e ≡ false)) new g merged.joined has).0
      ∙ side.joined old (ends_of g) ∙ zero_count))
      (λ holds. inr holds) (none_or_holds Holds old (ends_of g) all))

  -- ---- one round

  module _ (old : List CountedEdge) (r : Round) (forward : IsForwardBy ends_of old) (merged : IsMerged old r.edges)
      (p : PlanePoint) where
    -- the pieces wind as the edges, where those that count do
    cut_winds : ((e : CountedEdge) → Contains r.edges e → (count e ≡ pos 0) ⊎ WindsAsBefore (whole_cuts r) p e) →
        winding_by count (pieces_of r) p ≡ winding_by count old p
    cut_winds winds = winding_by-cut_counted count (whole_cuts r) r.edges side.of_piece p winds
        ∙ side.merged old r.edges merged p

    -- a point far from the edges that count is far from such pieces
    far_pieces : (k m : ℕ) → ((e : CountedEdge) → Contains r.edges e → (s : Step) → Contains (chain_of r e) s →
        IsFarFromEdge m p e → IsFarFromEdge k p (piece_along e s)) → IsFarFromSide count m r.edges p →
        IsFarFromSide count k (pieces_of r) p
    far_pieces k m each far = all_of_entries (λ e. (count e ≡ pos 0) ⊎ IsFarFromEdge k p e) (pieces_of r) (λ g has.
        let of = Contains-from_flat_map (pieces_through (whole_cuts r)) r.edges g has in
        let along = Contains-from_map (piece_along of.0) (chain_of r of.0) g of.2 in
        subst (λ (f : CountedEdge). (count f ≡ pos 0) ⊎ IsFarFromEdge k p f) along.2
        (⊎_elim (λ zero_count. inl (side.of_piece of.0 along.0 ∙ mul-zero (sign_of along.0) (count of.0) zero_count))
        (λ away. inr (each of.0 of.1 along.0 along.1 away))
        (All-contains (λ e. (count e ≡ pos 0) ⊎ IsFarFromEdge m p e) r.edges of.0 far of.1)))

  module _ (old : List CountedEdge) (r : Round) (forward : IsForwardBy ends_of old) (round : IsAnyRound old r)
      (p : PlanePoint) where
    merged_far : (k : ℕ) → IsFarFromSide count k old p → IsFarFromSide count k r.edges p
    merged_far k = holds_merged (λ f. (q : PlanePoint) → IsOn f q → ¬ (AreWithinHalves k q p)) old r.edges round.merged

    -- one that moves points leaves p half a unit less far
    by_moving : (k : ℕ) → IsFarFromSide count (suc k) old p → StaysFarFromSide count k old (pieces_of r) p
    by_moving k far = record {
      far = far_pieces old r forward round.merged p k (suc k)
          (λ e has s at. far_piece k (suc k) p e s (near_by_moving old r forward round k p e has s at))
          (merged_far (suc k) far);
      winds = cut_winds old r forward round.merged p (λ e has. ⊎_elim (λ zero_count. inl zero_count)
          (λ away. inr (winds_far old r forward round k p e has away))
          (All-contains (λ e. (count e ≡ pos 0) ⊎ IsFarFromEdge (suc k) p e) r.edges e (merged_far (suc k) far) has));
    }

    -- one that moves none leaves it as far
    by_still : MovesNone r → (k : ℕ) → IsFarFromSide count k old p → StaysFarFromSide count k old (pieces_of r) p
    by_still still k far = record {
      far = far_pieces old r forward round.merged p k k
          (λ e has s at. far_piece k k p e s
          (λ h on within. (h, on_chain old r forward round still e has s at h on, within)))
          (merged_far k far);
      winds = cut_winds old r forward round.merged p (λ e has. inr (winds_still old r forward round still p e has));
    }

  -- ---- all rounds

  -- a point more than k/2 away, k of the rounds moving points, keeps the winding
  winds_by_rounds : (rounds : List Round) (k : ℕ) (old : List CountedEdge) → IsForwardBy ends_of old →
      AreEachRounds IsAnyRound old rounds → MovingRounds rounds k → (p : PlanePoint) → IsFarFromSide count k old p →
      winding_by count (after_rounds old rounds) p ≡ winding_by count old p
  winds_by_rounds [] zero old forward cut none p far = refl
  winds_by_rounds [] (suc k) old forward cut moved p far = elim moved [ ]
  winds_by_rounds (r ∷ rounds) k old forward cut (exact still later) p far =
      let first = by_still old r forward cut.0 p still k far in
      winds_by_rounds rounds k (pieces_of r) (pieces_forward r) cut.1 later p first.far ∙ first.winds
  winds_by_rounds (r ∷ rounds) (suc k) old forward cut (moving some later) p far =
      let first = by_moving old r forward cut.0 p k far in
      winds_by_rounds rounds k (pieces_of r) (pieces_forward r) cut.1 later p first.far ∙ first.winds

  winds_far_from_side : (solver : Solver) (rounds : List Round) (k : ℕ) (old new : List CountedEdge) →
      IsForwardBy ends_of old → IsReachedBy solver rounds old new → MovingRounds rounds k →
      (p : PlanePoint) → IsFarFromSide count k old p → winding_by count new p ≡ winding_by count old p
  winds_far_from_side solver rounds k old new forward reached moved p far =
      side.merged (after_rounds old rounds) new reached.merged p
      ∙ winds_by_rounds rounds k old forward (any_rounds solver old rounds reached.cut) moved p far

  -- ---- a round of snap rounding

  -- its pieces wind as before round a point in whose unit square no edge that counts has a point
  snapped_beside : (old : List CountedEdge) (r : Round) → IsForwardBy ends_of old → IsSnapRound old r →
      (p : PlanePoint) → IsBesideSide count old p → winding_by count (pieces_of r) p ≡ winding_by count old p
  snapped_beside old r forward (inl (whole, round)) p beside =
      cut_winds old r forward round.merged p (λ e has. inr (winds_whole r (record {
        forward = forward_merged old r.edges round.merged forward;
        whole = whole;
        alone = same_merged old r.edges round.merged;
        cut = round.cut;
        rounding = round.rounding;
      }) p e has))
  snapped_beside old r forward (inr (not_whole, snap)) p beside =
      cut_winds old r forward snap.merged p (λ e has. ⊎_elim (λ zero_count. inl zero_count)
      (λ misses. inr (snapped_winds old r forward snap p e has misses))
      (All-contains (λ e. (count e ≡ pos 0) ⊎ (¬ (MeetsSquareRound (ends_of e) p))) r.edges e
      (holds_merged (λ f. ¬ (MeetsSquareRound f p)) old r.edges snap.merged beside) has))

  winds_beside : (rounds : List Round) (old new : List CountedEdge) → length rounds ≤ 1 →
      IsForwardBy ends_of old → IsReachedBy Snapping rounds old new → (p : PlanePoint) → IsBesideSide count old p →
      winding_by count new p ≡ winding_by count old p
  winds_beside [] old new few forward reached p beside = side.merged old new reached.merged p
  winds_beside (r ∷ []) old new few forward reached p beside =
      side.merged (pieces_of r) new reached.merged p ∙ snapped_beside old r forward reached.cut.0 p beside
  winds_beside (r ∷ next ∷ rounds) old new few forward reached p beside = absurd (omega (arith, few))

-- ---- the laws

pub arrangements_keep_far_sides : ArrangementsKeepFarSides
arrangements_keep_far_sides solver rounds k old new forward reached moved = record {
  subj = winds_far_from_side subj_of subj_is_side solver rounds k old new forward reached moved;
  clip = winds_far_from_side clip_of clip_is_side solver rounds k old new forward reached moved;
}

pub snaps_keep_sides_beside : SnapsKeepSidesBeside
snaps_keep_sides_beside rounds old new few forward reached = record {
  subj = winds_beside subj_of subj_is_side rounds old new few forward reached;
  clip = winds_beside clip_of clip_is_side rounds old new few forward reached;
}
