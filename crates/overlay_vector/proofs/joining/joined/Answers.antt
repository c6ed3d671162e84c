-- Edge by edge is added behind the others, and then the ends are joined.
use Rattle.std.proofs.Common.{[], take, sym, subst}
use Rattle.std.proofs.lemmas.List.{take_all}
use Rattle.overlay_geom.proofs.Mapped.{mapped_more, All-mapped_at}
use Rattle.overlay_vector.specs.DataVectors.{plain_data_vector, plain_data_vectors}
use Rattle.overlay_vector.specs.Joining.{IsInRange, IsJoined}
use Rattle.overlay_vector.proofs.JoinedContours.{AreGathered, gathered_none, gathered_more, gathered_whole}
use Rattle.overlay_vector.proofs.JoinedContours.{joined_further}
use Rattle.overlay_vector.proofs.joining.joined.Goals as goal

pub loop-vector-init : goal.loop-vector-init
loop-vector-init g c =
    subst (λ vs. AreGathered g.D.PartialEq.eq g.I.IntNumber.limit [] (plain_data_vectors g.I.IntNumber.whole vs))
    (sym c.new-path.ensures.items) (gathered_none g.D.PartialEq.eq g.I.IntNumber.limit)

pub append-requires-clause-vector : goal.append-requires-clause-vector
append-requires-clause-vector g c = All-mapped_at (IsInRange g.I.IntNumber.limit)
    (plain_data_vector g.I.IntNumber.whole)
    c.args.vectors.now c.loop-vector.vector-index c.vector-item.result c.loop-vector-test.true c.vector-item.is
    c.requires

pub loop-vector-preserved : goal.loop-vector-preserved
loop-vector-preserved g c =
    let whole = g.I.IntNumber.whole in
    let eq = g.D.PartialEq.eq in
    let limit = g.I.IntNumber.limit in
    let k = c.loop-vector.vector-index in
    let more = plain_data_vectors whole c.append.new.path.items in
    subst (λ vs. AreGathered eq limit vs more)
    (sym (mapped_more (plain_data_vector whole) c.args.vectors.now k c.vector-item.result c.loop-vector-test.true
    c.vector-item.is))
    (gathered_more eq limit (plain_data_vectors whole (take k c.args.vectors.now))
    (plain_data_vectors whole c.loop-vector.path.items) (plain_data_vector whole c.vector-item.result) more
    c.loop-vector.invariant c.in_ok-append.ensures.ok)

pub returns : goal.returns
returns g c = record {
  joined = let whole = g.I.IntNumber.whole in
      let eq = g.D.PartialEq.eq in
      let limit = g.I.IntNumber.limit in
      let path = plain_data_vectors whole c.loop-vector.path.items in
      let new = plain_data_vectors whole c.join_ends.new.path.items in
      subst (λ vs. IsJoined eq (plain_data_vectors whole vs) new)
      (take_all c.loop-vector.vector-index c.args.vectors.now c.loop-vector-test.false)
      (joined_further eq (plain_data_vectors whole (take c.loop-vector.vector-index c.args.vectors.now)) path new
      (gathered_whole eq limit (plain_data_vectors whole (take c.loop-vector.vector-index c.args.vectors.now)) path
      c.loop-vector.invariant) c.in_ok-join_ends.ensures.joined);
}
