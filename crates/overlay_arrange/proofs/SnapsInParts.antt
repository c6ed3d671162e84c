-- One snap of edges that may be parted first: what stands for the pieces of the parts stands for those of the edges.
use Rattle.std.proofs.Common.{◌≡◌, ℕ, List, subst}
use Rattle.overlay_geom.specs.Edges.{ends_of}
use Rattle.overlay_plane.specs.Carried.{Carried, edges_in}
use Rattle.overlay_plane.specs.EdgeLists.{IsForwardBy}
use Rattle.overlay_parts.specs.PartedContents.{AreHeavyParts}
use Rattle.overlay_arrange.specs.Parting.{AreInParts, MayPart}
use Rattle.overlay_arrange.specs.Snapping.{AreHeavyPieces, ArePartsLedHeavy, ArePartsLedOnce, IsLedOnce}
use Rattle.overlay_arrange.proofs.CoveredChains.{led_heavy_of_covers}
use Rattle.overlay_arrange.proofs.CutsOfParts.{heavy_in_parts, led_in_parts}

module _ {C : Type 0} (merges : C → C → C → Type 0) (splits reverses : C → C → Type 0) (xs : List (Carried C))
    (forward : IsForwardBy ends_of (edges_in xs)) where
  -- the parts are led once, so the edges are
  pub once_in_parts : {ys new : List (Carried C)} (hidden given : List ℕ) →
      AreInParts merges splits reverses xs ys hidden → given ≡ hidden →
      ArePartsLedOnce merges splits reverses given ys new → IsLedOnce merges splits reverses xs new
  once_in_parts {ys} {new} hidden given are same led =
      let parts = subst (λ hs. ArePartsLedOnce merges splits reverses hs ys new) same led in
      led_in_parts merges splits reverses xs forward are parts.points parts.led parts.joined

  -- their pieces are heavy, so those of the edges are
  pub heavy_once_in_parts : {ys : List (Carried C)} (hidden given : List ℕ) (limit : ℕ) →
      AreInParts merges splits reverses xs ys hidden → given ≡ hidden → ArePartsLedHeavy limit given ys →
      AreHeavyPieces limit (edges_in xs)
  heavy_once_in_parts {ys} hidden given limit are same heavy =
      let parts = subst (λ hs. ArePartsLedHeavy limit hs ys) same heavy in
      heavy_in_parts merges splits reverses xs forward are limit parts.points parts.led parts.heavy

  -- parts that weigh too much make pieces that do
  pub heavy_of_heavy_parts : (limit : ℕ) → MayPart merges splits reverses × AreHeavyParts merges limit xs →
      AreHeavyPieces limit (edges_in xs)
  heavy_of_heavy_parts limit (may, heavy) =
      led_heavy_of_covers merges splits reverses may xs heavy.parts forward heavy.parted limit heavy.heavy
