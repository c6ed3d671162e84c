-- The list becomes what is left of it.
use Rattle.std.proofs.Common.{vec_len}
use Rattle.overlay_vector.specs.DataVectors.{plain_data_vectors}
use Rattle.overlay_vector.proofs.JoinedContours.{AreNarrowed}
use Rattle.overlay_vector.proofs.joining.join_ends.Given as goal

abbrev pub invariant-loop-path : goal.invariant-loop-path
invariant-loop-path g l =
    let whole = g.I.IntNumber.whole in
    AreNarrowed g.D.PartialEq.eq g.I.IntNumber.limit (plain_data_vectors whole l.initial.path.items)
    (plain_data_vectors whole l.path.items)

abbrev pub decreases-loop-path : goal.decreases-loop-path
decreases-loop-path g l = vec_len l.path
