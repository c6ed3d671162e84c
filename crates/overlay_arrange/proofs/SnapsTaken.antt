-- One snap: a content that is merged, led once by snap rounding, and merged again was split by snapping.
use Rattle.std.proofs.Common.{ℕ, List, refl, arith}
use Rattle.std.specs.List.{flat_map}
use Rattle.overlay_geom.specs.Merged.{IsMerged}
use Rattle.overlay_geom.specs.Settled.{IsSettled}
use Rattle.overlay_geom.specs.declared.solver.Solver.TheVariants.{Snapping}
use Rattle.overlay_plane.specs.Arrangements.{WeighsTooMuch}
use Rattle.overlay_plane.specs.Carried.{Carried, edges_in}
use Rattle.overlay_plane.specs.Cutting.{pieces_through}
use Rattle.overlay_plane.specs.DerivedData.{CarriesMerged}
use Rattle.overlay_order.specs.Content.{IsContent}
use Rattle.overlay_graph.specs.Arranged.{IsSplitCarrying}
use Rattle.overlay_arrange.specs.Cut.{chain_by}
use Rattle.overlay_arrange.specs.Snapping.{AreHeavyPieces, IsLedOnce}
use Rattle.overlay_arrange.proofs.ArrangedLists.{carried_at_once, carried_on, forward_content}
use Rattle.overlay_arrange.proofs.RoundsTaken.{heavy_at_once}
use Rattle.overlay_arrange.proofs.SolverRounds.{leaves_of_taken, led_by_snapping, settled_by_snapping}
use Rattle.overlay_arrange.proofs.StandingLists.{carries_of_standing, merged_of_standing}

module _ {C : Type 0} (merges : C → C → C → Type 0) (splits reverses : C → C → Type 0) (limit : ℕ)
    (old kept : List (Carried C)) (content : IsContent limit (edges_in kept))
    (merged : IsMerged (edges_in old) (edges_in kept)) (unsettled : ¬ (IsSettled (edges_in kept))) where
  -- the pieces of snap rounding, merged, were split in one round, and the values of the edges derive along it
  pub snapped_carrying : (left new : List (Carried C)) → IsContent limit (edges_in old) →
      CarriesMerged merges old kept → IsLedOnce merges splits reverses kept left →
      IsMerged (edges_in left) (edges_in new) → CarriesMerged merges left new →
      IsSplitCarrying merges splits reverses Snapping 1 old new
  snapped_carrying left new old_content carries led merged_left carries_left =
      let forward = forward_content limit (edges_in kept) content in
      let pieces = led.joined.pieces in
      let merged_pieces = merged_of_standing merges (edges_in new) led.joined.stands merged_left in
      let carries_pieces = carries_of_standing merges new led.joined.stands carries_left in
      let settled = settled_by_snapping (edges_in old) (edges_in kept) forward merged unsettled
      (forward_content limit (edges_in old) old_content) led.points led.led (edges_in pieces) (edges_in new)
      led.joined.edges merged_pieces in
      carried_on merges splits reverses Snapping 0 1 old kept pieces new (chain_by led.points) (omega arith)
      (led_by_snapping (edges_in old) (edges_in kept) forward merged unsettled led.points led.led (edges_in pieces)
      led.joined.edges) carries led.joined.carried led.joined.light
      (carried_at_once merges splits reverses 0 pieces new merged_pieces settled carries_pieces)

  -- where the pieces are heavy, the round of snap rounding leaves edges that weigh too much
  pub heavy_by_snapping : (heavy_from : ℕ) → AreHeavyPieces heavy_from (edges_in kept) →
      WeighsTooMuch Snapping 1 heavy_from (edges_in old)
  heavy_by_snapping heavy_from heavy =
      let left = flat_map (pieces_through heavy.points) (edges_in kept) in
      heavy_at_once Snapping heavy_from 1 (edges_in old) left (omega arith)
      (leaves_of_taken Snapping (edges_in old) (edges_in kept) left (chain_by heavy.points)
      (led_by_snapping (edges_in old) (edges_in kept) (forward_content limit (edges_in kept) content) merged unsettled
      heavy.points heavy.led left refl)) heavy.heavy
