-- One cut of edges that may be parted first: what stands for the pieces of the parts stands for those of the edges.
use Rattle.std.proofs.Common.{◌≡◌, ℕ, ◌≤◌, List, sym, subst}
use Rattle.overlay_geom.specs.Edges.{ends_of, weight}
use Rattle.overlay_plane.specs.Carried.{Carried, edges_in}
use Rattle.overlay_plane.specs.CutPoints.{cut_edges, cut_points}
use Rattle.overlay_plane.specs.EdgeLists.{IsForwardBy}
use Rattle.overlay_parts.specs.PartedContents.{AreHeavyParts}
use Rattle.overlay_parts.specs.PartedContents.{covered}
use Rattle.overlay_arrange.specs.Batches.{AreJoinedPieces}
use Rattle.overlay_arrange.specs.Parting.{cover_weight, AreInParts, AreJoinedParts, MayPart}
use Rattle.overlay_arrange.proofs.CoveredChains.{cut_heavy_of_covers}
use Rattle.overlay_arrange.proofs.CutsOfParts.{cut_in_parts, cut_weight_in_parts}

module _ {C : Type 0} (merges : C → C → C → Type 0) (splits reverses : C → C → Type 0) (xs : List (Carried C))
    (forward : IsForwardBy ends_of (edges_in xs)) where
  -- the parts are cut once, so the edges are
  pub cut_once_in_parts : {ys new : List (Carried C)} (hidden given : List ℕ) →
      AreInParts merges splits reverses xs ys hidden → given ≡ hidden →
      AreJoinedParts merges splits reverses (cut_points (edges_in ys)) (covered ys given) new →
      AreJoinedPieces merges splits reverses (cut_points (edges_in xs)) xs new
  cut_once_in_parts {ys} {new} hidden given are same stands = cut_in_parts merges splits reverses xs forward are
      (subst (λ hs. AreJoinedParts merges splits reverses (cut_points (edges_in ys)) (covered ys hs) new) same stands)

  -- their pieces are heavy, so those of the edges are
  pub cut_heavy_in_parts : {ys : List (Carried C)} (hidden given : List ℕ) (limit : ℕ) →
      AreInParts merges splits reverses xs ys hidden → given ≡ hidden →
      limit ≤ cover_weight (cut_points (edges_in ys)) (covered ys given) → limit ≤ weight (cut_edges (edges_in xs))
  cut_heavy_in_parts {ys} hidden given limit are same heavy =
      subst (λ n. limit ≤ n) (sym (cut_weight_in_parts merges splits reverses xs forward are))
      (subst (λ hs. limit ≤ cover_weight (cut_points (edges_in ys)) (covered ys hs)) same heavy)

  -- parts that weigh too much make pieces that do
  pub cut_heavy_of_parts : (limit : ℕ) → MayPart merges splits reverses × AreHeavyParts merges limit xs →
      limit ≤ weight (cut_edges (edges_in xs))
  cut_heavy_of_parts limit (may, heavy) =
      cut_heavy_of_covers merges splits reverses may xs heavy.parts forward heavy.parted limit heavy.heavy
