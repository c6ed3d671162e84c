-- Merged edges cut through the points computed pair by pair are the result of a cutting round.
use Rattle.std.proofs.Common.{◌≡◌, List, map, Contains, refl, ap}
use Rattle.overlay_geom.specs.Edges.{CountedEdge, ends_of}
use Rattle.overlay_geom.specs.Merged.{IsMerged}
use Rattle.overlay_geom.specs.Rounding.{nearest_point}
use Rattle.overlay_geom.specs.Settled.{IsSettled}
use Rattle.overlay_geom.proofs.Rounded.{nearest_point-rounding}
use Rattle.overlay_plane.specs.Arrangements.{CuttingIsARound}
use Rattle.overlay_plane.specs.CutPoints.{cut_points, cut_edges}
use Rattle.overlay_plane.specs.Cutting.{piece_along, pieces_through}
use Rattle.overlay_plane.specs.DerivedData.{computed_chain}
use Rattle.overlay_plane.specs.EdgeLists.{IsForwardBy}
use Rattle.overlay_plane.specs.Rounds.{Round, IsRound, IsCutAt, chain_of, whole_cuts, pieces_of}
use Rattle.overlay_plane.proofs.Entries.{flat_map-same, all_of_entries}
use Rattle.overlay_plane.proofs.CutChains.{same_chain}
use Rattle.overlay_plane.proofs.CutLists.{cuts_of, is_cut_at}

-- the round that cuts the edges where they meet, and takes the nearest whole points
abbrev round_of : List CountedEdge → Round
round_of es = record { edges = es; cuts = cuts_of es; whole_at = nearest_point }

-- it is a round where the edges are merged and not settled
round_of_merged : (old es : List CountedEdge) → IsForwardBy ends_of es → IsMerged old es → ¬ (IsSettled es) →
    IsRound old (round_of es)
round_of_merged old es forward merged unsettled = record {
  merged = merged;
  unsettled = unsettled;
  cut = all_of_entries (λ e. IsCutAt es e (cuts_of es e)) es (is_cut_at es forward);
  rounding = nearest_point-rounding;
}

-- it leaves the edges cut through the computed points
round_of_pieces : (es : List CountedEdge) → IsForwardBy ends_of es → pieces_of (round_of es) ≡ cut_edges es
round_of_pieces es forward = flat_map-same (pieces_through (whole_cuts (round_of es)))
    (pieces_through (cut_points es)) es
    (λ e at_e. ap (λ ss. map (piece_along e) ss) (same_chain es forward e at_e))

-- a round that cuts merged edges through the computed points
pub record CutsThrough (old es : List CountedEdge) (r : Round) : Type 0 where
  pub is : IsRound old r
  pub leaves : pieces_of r ≡ cut_edges es
  pub edges : r.edges ≡ es
  pub chains : (e : CountedEdge) → Contains es e → chain_of r e ≡ computed_chain es e

-- there is one where the edges are merged and not settled
pub cutting_through : (old es : List CountedEdge) → IsForwardBy ends_of es → IsMerged old es → ¬ (IsSettled es) →
    (r : Round) × CutsThrough old es r
cutting_through old es forward merged unsettled = (
  round_of es,
  record {
    is = round_of_merged old es forward merged unsettled;
    leaves = round_of_pieces es forward;
    edges = refl;
    chains = λ e at_e. same_chain es forward e at_e;
  },
)

-- the pieces are the result of a round
pub cutting_is_a_round : CuttingIsARound
cutting_is_a_round old es forward merged unsettled =
    (round_of es, round_of_merged old es forward merged unsettled, round_of_pieces es forward)
