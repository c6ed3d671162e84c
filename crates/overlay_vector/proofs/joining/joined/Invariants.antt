-- The edges so far become the list.
use Rattle.std.proofs.Common.{take}
use Rattle.overlay_vector.specs.DataVectors.{plain_data_vectors}
use Rattle.overlay_vector.proofs.JoinedContours.{AreGathered}
use Rattle.overlay_vector.proofs.joining.joined.Given as goal

abbrev pub invariant-loop-vector : goal.invariant-loop-vector
invariant-loop-vector g l =
    let whole = g.I.IntNumber.whole in
    AreGathered g.D.PartialEq.eq g.I.IntNumber.limit (plain_data_vectors whole (take l.vector-index l.vectors))
    (plain_data_vectors whole l.path.items)
