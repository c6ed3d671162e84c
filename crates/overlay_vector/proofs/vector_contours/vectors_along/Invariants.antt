-- The edges so far are those along the steps so far, and the store is reached.
use Rattle.std.proofs.Common.{take, All}
use Rattle.std.specs.List.{AllZip}
use Rattle.overlay_parts.specs.Stores.{IsStoreReached}
use Rattle.overlay_walk.specs.Steps.{plain_steps}
use Rattle.overlay_vector.specs.DataVectors.{plain_data_vectors}
use Rattle.overlay_vector.specs.Joining.{IsInRange}
use Rattle.overlay_vector.specs.VectorShapes.{IsVectorAlong}
use Rattle.overlay_vector.proofs.vector_contours.vectors_along.Given as goal

abbrev pub invariant-loop-i : goal.invariant-loop-i
invariant-loop-i g l = record {
  along : AllZip (IsVectorAlong g.D.OverlayEdgeData.reverses l.graph.fill_rule l.graph.edges)
      (plain_steps g.I.IntNumber.whole (take l.i l.walk)) (plain_data_vectors g.I.IntNumber.whole l.vectors.items);
  in_range : All (IsInRange g.I.IntNumber.limit) (plain_data_vectors g.I.IntNumber.whole l.vectors.items);
  reached : IsStoreReached g.D.OverlayEdgeData.writes l.initial.store l.store;
}
