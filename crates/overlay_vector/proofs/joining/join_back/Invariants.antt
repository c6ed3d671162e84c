-- The list and the edge behind it become what is left of it and the joined edge.
use Rattle.std.proofs.Common.{vec_len}
use Rattle.overlay_vector.specs.DataVectors.{plain_data_vector, plain_data_vectors}
use Rattle.overlay_vector.proofs.JoinedContours.{AreBack}
use Rattle.overlay_vector.proofs.joining.join_back.Given as goal

abbrev pub invariant-loop-path : goal.invariant-loop-path
invariant-loop-path g l =
    let whole = g.I.IntNumber.whole in
    AreBack g.D.PartialEq.eq g.I.IntNumber.limit (plain_data_vectors whole l.initial.path.items)
    (plain_data_vector whole l.initial.vector) (plain_data_vectors whole l.path.items)
    (plain_data_vector whole l.vector)

abbrev pub decreases-loop-path : goal.decreases-loop-path
decreases-loop-path g l = vec_len l.path
