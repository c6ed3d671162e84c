-- Scaled edges that meet in whole points alone, cut once, are an arrangement with their windings.
use Rattle.std.proofs.Common.{ℤ, List, Contains, subst, sym}
use Rattle.std.proofs.lemmas.List.Elements.{All-contains, All-map}
use Rattle.overlay_geom.specs.Edges.{CountedEdge, ends_of, all_ends}
use Rattle.overlay_geom.specs.Merged.{HaveSameWindings}
use Rattle.overlay_geom.specs.Plane.{PlanePoint, Edge, IsOn, IsOff}
use Rattle.overlay_geom.specs.Rounding.{nearest_point}
use Rattle.overlay_geom.proofs.MergedWindings.{windings_from_merged}
use Rattle.overlay_geom.proofs.Rounded.{nearest_point-rounding}
use Rattle.overlay_plane.specs.Balance.{HasBalancedCounts}
use Rattle.overlay_plane.specs.Cutting.{piece_along, pieces_through}
use Rattle.overlay_plane.specs.EdgeLists.{IsForwardBy}
use Rattle.overlay_plane.specs.Regions.{IsPlanar}
use Rattle.overlay_plane.specs.Rounds.{IsCutAt, chain_of, pieces_of, whole_cuts}
use Rattle.overlay_plane.proofs.ChainStops.{IsLink, links_of_chain}
use Rattle.overlay_plane.proofs.CutLists.{cuts_of, is_cut_at}
use Rattle.overlay_plane.proofs.CutOnLines.{winding_by-cut}
use Rattle.overlay_plane.proofs.EdgeOrder.{distinct_from_ascending}
use Rattle.overlay_plane.proofs.Entries.{Contains-map, Contains-from_map, Contains-from_flat_map, all_of_entries}
use Rattle.overlay_plane.proofs.ExactRounds.{windings_through, winds_whole}
use Rattle.overlay_plane.proofs.KeepingBalance.{cutting_keeps_balance, merging_keeps_balance}
use Rattle.overlay_plane.proofs.LinesWithin.{on_holder}
use Rattle.overlay_plane.proofs.OneArrangement.{pieces_forward}
use Rattle.overlay_plane.proofs.PieceCounts.{subj_of_piece, clip_of_piece}
use Rattle.overlay_plane.proofs.SettledPieces.{pieces_settled}
use Rattle.overlay_plane.proofs.WholeCuts.{CutsWhole, ends_of_merged, forward_merged, whole_meetings_merged}
use Rattle.overlay_plane.proofs.WholeCuts.{same_merged, goes_forward, stops, stop_held, stops_rise}
use Rattle.overlay_scaled.specs.ExactArrangements.{IsExactArrangement, ArrangesExactly, ExactArrangementsExist}
use Rattle.overlay_scaled.specs.ExactArrangements.{ExactArrangementsArrange, ExactArrangementsAreFillable}
use Rattle.overlay_scaled.specs.ExactArrangements.{MergingKeepsPointsOff}
use Rattle.overlay_scaled.specs.Scaled.{scaled}
use Rattle.overlay_scaled.proofs.MergedLists.{merged_of, is_merged}
use Rattle.overlay_scaled.proofs.ScaledLists.{scaled_forward, scaled_balanced}
use Rattle.overlay_scaled.proofs.WholeScales.{whole_scale, whole_scale-pos, whole_at_scale}

module _ (n : ℤ) (es new : List CountedEdge) (forward : IsForwardBy ends_of es) (arranged : IsExactArrangement n es new)
  where
    -- the scaled edges
    abbrev given : List CountedEdge
    given = scaled n es

    given_forward : IsForwardBy ends_of given
    given_forward = scaled_forward n arranged.scale es forward

    pub whole_cut : CutsWhole arranged.round
    whole_cut = record {
      forward = forward_merged given arranged.round.edges arranged.merged given_forward;
      whole = whole_meetings_merged given arranged.round.edges arranged.merged arranged.whole;
      alone = same_merged given arranged.round.edges arranged.merged;
      cut = arranged.cut;
      rounding = arranged.rounding;
    }

    pub planar : IsPlanar new
    planar = record {
      forward = forward_merged (pieces_of arranged.round) new arranged.pieces (pieces_forward arranged.round);
      settled = pieces_settled arranged.round whole_cut new arranged.pieces;
      distinct = distinct_from_ascending new arranged.pieces.ascending;
    }

    pub windings : HaveSameWindings given new
    windings = windings_through given arranged.round.edges new
        (windings_from_merged given arranged.round.edges arranged.merged)
        (windings_through arranged.round.edges (pieces_of arranged.round) new (record {
          subj = λ p. winding_by-cut _ (whole_cuts arranged.round) arranged.round.edges subj_of_piece p
              (winds_whole arranged.round whole_cut p);
          clip = λ p. winding_by-cut _ (whole_cuts arranged.round) arranged.round.edges clip_of_piece p
              (winds_whole arranged.round whole_cut p);
        }) (windings_from_merged (pieces_of arranged.round) new arranged.pieces))

    -- an edge of the arrangement lies along a link of the chain of a merged edge
    pub link_of : (g : CountedEdge) → Contains new g →
        (e : CountedEdge) × Contains arranged.round.edges e × IsLink (stops arranged.round e) (ends_of g)
    link_of g has =
        let from = ends_of_merged (pieces_of arranged.round) new arranged.pieces g has in
        let of_edge = Contains-from_flat_map (pieces_through (whole_cuts arranged.round)) arranged.round.edges from.0
        from.1 in
        let e : CountedEdge = of_edge.0 in
        let of_step = Contains-from_map (piece_along e) (chain_of arranged.round e) from.0 of_edge.2 in (
          e,
          of_edge.1,
          subst (IsLink (stops arranged.round e)) from.2
              (subst (λ (x : CountedEdge). IsLink (stops arranged.round e) (ends_of x)) of_step.2
              (links_of_chain e.a _ (stops_rise arranged.round whole_cut e of_edge.1) of_step.0 of_step.1)),
        )

    -- so its points lie on that edge
    pub on_merged : (g : CountedEdge) → Contains new g → (p : PlanePoint) → IsOn (ends_of g) p →
        (e : CountedEdge) × Contains arranged.round.edges e × IsOn (ends_of e) p
    on_merged g has p on = let link = link_of g has in (
      link.0,
      link.1,
      on_holder (ends_of link.0) (ends_of g) p (goes_forward arranged.round whole_cut link.0 link.1) link.2.forward
          (stop_held arranged.round whole_cut link.0 g.a link.1 link.2.from)
          (stop_held arranged.round whole_cut link.0 g.b link.1 link.2.to) on,
    )

    -- and on a scaled edge
    pub on_given : (g : CountedEdge) → Contains new g → (p : PlanePoint) → IsOn (ends_of g) p →
        (e : CountedEdge) × Contains given e × IsOn (ends_of e) p
    on_given g has p on =
        let first = on_merged g has p on in
        let from = ends_of_merged given arranged.round.edges arranged.merged first.0 first.1 in
        (from.0, from.1, subst (λ (f : Edge). IsOn f p) (sym from.2) first.2)

    off_new : (p : PlanePoint) → IsOff (all_ends given) p → IsOff (all_ends new) p
    off_new p off = All-map (λ f. ¬ (IsOn f p)) ends_of new (all_of_entries (λ g. ¬ (IsOn (ends_of g) p)) new
        (λ g has on. let at = on_given g has p on in
        All-contains (λ f. ¬ (IsOn f p)) (all_ends given) (ends_of at.0) off (Contains-map ends_of given at.0 at.1)
        at.2))

    pub arranges : HasBalancedCounts es → ArrangesExactly n es new
    arranges balanced = record {
      planar = planar;
      balanced = merging_keeps_balance (pieces_of arranged.round) new arranged.pieces
          (cutting_keeps_balance arranged.round.edges (whole_cuts arranged.round)
          (merging_keeps_balance given arranged.round.edges arranged.merged (scaled_balanced n es balanced)));
      off = λ p off. record { off = off_new p off; subj = windings.subj p; clip = windings.clip p };
      windings = windings;
    }

-- ---- there is one

-- the cutting of the merged edges at the whole scale
module _ (es : List CountedEdge) (forward : IsForwardBy ends_of es) where
  abbrev n : ℤ
  n = whole_scale es

  abbrev merged : List CountedEdge
  merged = merged_of (scaled n es)

  merged_forward : IsForwardBy ends_of merged
  merged_forward = forward_merged (scaled n es) merged (is_merged (scaled n es))
      (scaled_forward n (whole_scale-pos es) es forward)

  abbrev pieces : List CountedEdge
  pieces = pieces_of (record { edges = merged; cuts = cuts_of merged; whole_at = nearest_point })

  exact_arrangement : IsExactArrangement n es (merged_of pieces)
  exact_arrangement = record {
    scale = whole_scale-pos es;
    whole = whole_at_scale es forward;
    round = record { edges = merged; cuts = cuts_of merged; whole_at = nearest_point };
    merged = is_merged (scaled n es);
    cut = all_of_entries (λ e. IsCutAt merged e (cuts_of merged e)) merged (is_cut_at merged merged_forward);
    rounding = nearest_point-rounding;
    pieces = is_merged pieces;
  }

-- ---- merging alone

-- merged edges have no point off the edges, and wind as they do
pub merging_keeps_points_off : MergingKeepsPointsOff
merging_keeps_points_off content es merged p off = record {
  off = All-map (λ f. ¬ (IsOn f p)) ends_of es (all_of_entries (λ e. ¬ (IsOn (ends_of e) p)) es
      (λ e c on. let from = ends_of_merged content es merged e c in
      All-contains (λ f. ¬ (IsOn f p)) (all_ends content) (ends_of from.0) off
      (Contains-map ends_of content from.0 from.1) (subst (λ (f : Edge). IsOn f p) (sym from.2) on)));
  subj = (windings_from_merged content es merged).subj p;
  clip = (windings_from_merged content es merged).clip p;
}

pub exact_arrangements_exist : ExactArrangementsExist
exact_arrangements_exist es forward = (_, _, exact_arrangement es forward)

pub exact_arrangements_arrange : ExactArrangementsArrange
exact_arrangements_arrange n es new forward balanced arranged = arranges n es new forward arranged balanced

pub exact_arrangements_are_fillable : ExactArrangementsAreFillable
exact_arrangements_are_fillable n es new filled exact none = record {
  planar = exact.planar;
  balanced = exact.balanced;
  none = none;
}
