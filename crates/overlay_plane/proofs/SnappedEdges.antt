-- Merged edges cut through the computed hot points whose pixels they meet are the result of a snap.
use Rattle.std.proofs.Common.{◌≡◌, List, [], ◌∷◌, ◌++◌, map, Contains, refl, ap}
use Rattle.overlay_geom.specs.Plane.{Step, steps_through}
use Rattle.overlay_geom.specs.Edges.{CountedEdge, ends_of}
use Rattle.overlay_geom.specs.Merged.{IsMerged}
use Rattle.overlay_geom.specs.Rounding.{nearest_point}
use Rattle.overlay_geom.specs.Settled.{IsSettled}
use Rattle.overlay_plane.specs.Cutting.{piece_along, pieces_through}
use Rattle.overlay_plane.specs.EdgeLists.{IsForwardBy}
use Rattle.overlay_plane.specs.Rounds.{Round, chain_of, whole_cuts, pieces_of}
use Rattle.overlay_plane.specs.SnapPoints.{snap_points, snapped_edges, SnappingIsASnap}
use Rattle.overlay_plane.specs.Snaps.{IsSnappedAt, IsSnap}
use Rattle.overlay_plane.proofs.Entries.{flat_map-same, all_of_entries}
use Rattle.overlay_plane.proofs.SnapChains.{same_snap}
use Rattle.overlay_plane.proofs.SnapLists.{snap_cuts, is_snapped_at}

-- the snap that cuts the edges at the points for their hot points, and takes the nearest whole points
abbrev pub snap_of : List CountedEdge → Round
snap_of es = record { edges = es; cuts = snap_cuts es; whole_at = nearest_point }

-- it is one where the edges are merged and not settled
snap_of_merged : (old es : List CountedEdge) → IsForwardBy ends_of es → IsMerged old es → ¬ (IsSettled es) →
    IsSnap old (snap_of es)
snap_of_merged old es forward merged unsettled = record {
  merged = merged;
  unsettled = unsettled;
  cut = all_of_entries (λ e. IsSnappedAt es e (snap_cuts es e)) es (is_snapped_at es forward);
  rounding = λ p. refl;
}

-- it leaves the edges cut through the computed points
snap_of_pieces : (es : List CountedEdge) → IsForwardBy ends_of es → pieces_of (snap_of es) ≡ snapped_edges es
snap_of_pieces es forward = flat_map-same (pieces_through (whole_cuts (snap_of es)))
    (pieces_through (snap_points es)) es
    (λ e at_e. ap (λ ss. map (piece_along e) ss) (same_snap es forward e at_e))

-- the chain of an edge through the computed hot points whose pixels it meets
abbrev pub snapped_chain : List CountedEdge → CountedEdge → List Step
snapped_chain es e = steps_through e.a (snap_points es e ++ e.b ∷ [])

-- a snap that cuts merged edges through the computed points
pub record SnapsThrough (old es : List CountedEdge) (r : Round) : Type 0 where
  pub is : IsSnap old r
  pub leaves : pieces_of r ≡ snapped_edges es
  pub edges : r.edges ≡ es
  pub chains : (e : CountedEdge) → Contains es e → chain_of r e ≡ snapped_chain es e

-- there is one where the edges are merged and not settled
pub snapping_through : (old es : List CountedEdge) → IsForwardBy ends_of es → IsMerged old es → ¬ (IsSettled es) →
    (r : Round) × SnapsThrough old es r
snapping_through old es forward merged unsettled = (
  snap_of es,
  record {
    is = snap_of_merged old es forward merged unsettled;
    leaves = snap_of_pieces es forward;
    edges = refl;
    chains = λ e at_e. same_snap es forward e at_e;
  },
)

-- the pieces are the result of a snap
pub snapping_is_a_snap : SnappingIsASnap
snapping_is_a_snap old es forward merged unsettled =
    (snap_of es, snap_of_merged old es forward merged unsettled, snap_of_pieces es forward)
