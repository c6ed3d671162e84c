-- Edge by edge those that are selected are added.
use Rattle.std.proofs.Common.{◌++◌, ap, sym, ◌∙◌, arith}
use Rattle.std.proofs.lemmas.List.{take_all}
use Rattle.std.specs.List.{flat_map}
use Rattle.overlay_geom.proofs.JoinedLists.{joined_more}
use Rattle.overlay_vector.specs.DataVectors.{plain_data_vectors}
use Rattle.overlay_vector.specs.ListedVectors.{vectors_by_bits}
use Rattle.overlay_vector.proofs.selected_vectors.listed.Goals as goal

pub loop-edge-init : goal.loop-edge-init
loop-edge-init g c = ap (plain_data_vectors g.I.IntNumber.whole) c.new-vectors.ensures.items

pub loop-edge-preserved : goal.loop-edge-preserved
loop-edge-preserved g c =
    let given = vectors_by_bits g.I.IntNumber.whole c.args.rule in
    let edge = c.edge-item.result in
    c.in_ok-push_selected.ensures.ok
    ∙ ap (λ l. l ++ given edge) c.loop-edge.invariant
    ∙ sym (joined_more given c.args.edges.now c.loop-edge.edge-index edge c.loop-edge-test.true c.edge-item.is)

pub returns : goal.returns
returns g c = record {
  ok = let past = c.loop-edge-test.false in
      c.loop-edge.invariant
      ∙ ap (flat_map (vectors_by_bits g.I.IntNumber.whole c.args.rule))
      (take_all c.loop-edge.edge-index c.args.edges.now (omega (arith, past)));
}
