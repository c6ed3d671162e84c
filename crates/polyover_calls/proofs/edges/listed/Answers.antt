-- One edge more stands in the arrays, and all of them.
use Rattle.std.proofs.Common.{◌++◌, ◌∷◌, [], ap, ◌∙◌, subst}
use Rattle.overlay_order.specs.Vectors.{plain_vector}
use Rattle.overlay_geom.proofs.Mapped.{mapped_whole}
use Rattle.polyover_calls.specs.Listed.{AreListed}
use Rattle.polyover_calls.proofs.Listed.{one_edge_more}
use Rattle.polyover_calls.proofs.edges.listed.Goals as goal

pub loop-edge-preserved : goal.loop-edge-preserved
loop-edge-preserved g c =
    one_edge_more g.I.IntNumber.whole c.args.edges.now c.loop-edge.edge-index c.edge-item.result
    (record { coordinates = c.loop-edge.coordinates.items; fills = c.loop-edge.fills.items })
    (record { coordinates = c.push-in-loop-edge-3.new.self.items; fills = c.push-in-loop-edge-4.new.self.items })
    c.loop-edge-test.true c.edge-item.is c.loop-edge.invariant
    (c.in_ok-push-4.ensures.items ∙ ap (λ xs. xs ++ c.edge-item.result.b.y ∷ []) (c.in_ok-push-3.ensures.items
    ∙ ap (λ xs. xs ++ c.edge-item.result.b.x ∷ []) (c.in_ok-push-2.ensures.items
    ∙ ap (λ xs. xs ++ c.edge-item.result.a.y ∷ []) c.in_ok-push.ensures.items)))
    c.in_ok-push-5.ensures.items

pub returns : goal.returns
returns g c = record {
  listed = let whole = g.I.IntNumber.whole in
      subst (λ vs. AreListed whole vs
      (record { coordinates = c.loop-edge.coordinates.items; fills = c.loop-edge.fills.items }))
      (mapped_whole (plain_vector whole) c.args.edges.now c.loop-edge.edge-index c.loop-edge-test.false)
      c.loop-edge.invariant;
}
