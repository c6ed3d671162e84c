-- One wall more; sorted, they are in their order.
use Rattle.std.proofs.Common.{◌≡◌, ◌++◌, ◌∷◌, [], map, take, sym, ap, ap₂, ◌∙◌, subst, rules}
use Rattle.std.specs.List.Sorted.{IsPermutation}
use Rattle.std.specs.Ordering.{is_lt}
use Rattle.std.proofs.lemmas.List.{map-append}
use Rattle.std.proofs.lemmas.List.Sorted.{answers_always, IsPermutation-map}
use Rattle.overlay_geom.specs.Plane.{edge_lt}
use Rattle.overlay_geom.specs.Resolved.{plain_edge, plain_edges}
use Rattle.overlay_geom.proofs.Mapped.{mapped_more, mapped_whole}
use Rattle.overlay_relate.specs.Walls.{wall_of}
use Rattle.overlay_relate.proofs.SortedEdges.{held_lt, held_lt-order, in_order-from_sorted}
use Rattle.overlay_relate.proofs.walls.walls_of.Goals as goal

pub loop-e-preserved : goal.loop-e-preserved
loop-e-preserved g c =
    let whole = g.I.IntNumber.whole in
    let plain = plain_edge whole in
    ap (plain_edges whole) c.in_ok-push.ensures.items ∙ map-append plain c.loop-e.walls.items (c.wall_of.result ∷ [])
    ∙ ap₂ (λ ws w. ws ++ w ∷ []) c.loop-e.invariant c.wall_of.ensures
    ∙ sym (ap (map wall_of) (mapped_more plain c.args.edges.now c.loop-e.e-index c.e-item.result c.loop-e-test.true
    c.e-item.is)
    ∙ map-append wall_of (map plain (take c.loop-e.e-index c.args.edges.now)) (plain c.e-item.result ∷ []))

pub returns : goal.returns
returns g c = record {
  walls = let whole = g.I.IntNumber.whole in
      let plain = plain_edge whole in record {
        same = subst (λ es. IsPermutation es (plain_edges whole c.sort_by.new.self.items))
            (c.loop-e.invariant ∙ ap (map wall_of)
            (mapped_whole plain c.args.edges.now c.loop-e.e-index c.loop-e-test.false))
            (IsPermutation-map plain c.loop-e.walls.items c.sort_by.new.self.items c.in_ok-sort_by.ensures.permutation);
        order = in_order-from_sorted whole c.sort_by.new.self.items
            (c.in_ok-sort_by.ensures.sorted (held_lt whole) (held_lt-order whole) (answers_always _ _ _ (λ f a r h k.
            let answer : is_lt r ≡ edge_lt (plain a.0.now) (plain a.1.0.now) = search rules in answer)));
      };
}
