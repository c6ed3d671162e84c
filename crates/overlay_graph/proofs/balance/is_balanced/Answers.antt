-- Sorted by their points, the ends cancel out where the edges are balanced.
use Rattle.std.proofs.Common.{◌≡◌, sym, ap, ◌∙◌, subst, rules}
use Rattle.std.specs.List.Sorted.{IsPermutation}
use Rattle.std.specs.Ordering.{is_lt}
use Rattle.std.proofs.lemmas.List.Sorted.{answers_always, IsPermutation-map}
use Rattle.overlay_geom.specs.Points.{plain_point}
use Rattle.overlay_geom.specs.Resolved.{point_cmp}
use Rattle.overlay_geom.proofs.PointComparisons.{point_cmp-is_less}
use Rattle.overlay_order.specs.Content.{plain_edges}
use Rattle.overlay_graph.specs.Ends.{plain_end, plain_ends, AreSummable, CancelOut}
use Rattle.overlay_graph.proofs.CountedEnds.{balanced_where_cancelled, cancelled_where_balanced, summable}
use Rattle.overlay_graph.proofs.CountedEnds.{held_before, held_before-order, by_point-from_sorted}
use Rattle.overlay_graph.proofs.balance.is_balanced.Goals as goal

pub cancel_out-requires : goal.cancel_out-requires
cancel_out-requires g c =
    let whole = g.I.IntNumber.whole in
    let es = plain_edges whole g.C.EdgeCount.counts c.args.edges.now in
    let sorted = c.sort_by.new.self.items in
    let moved = subst (λ ns. IsPermutation ns (plain_ends whole sorted)) c.in_ok-ends.ensures.ok
    (IsPermutation-map (plain_end whole) c.in_ok-ends.ends.items sorted c.in_ok-sort_by.ensures.permutation) in
    subst (λ ns. AreSummable (plain_ends whole ns)) (sym c.deref.ensures.value)
    (summable es (plain_ends whole sorted) moved c.requires.light (by_point-from_sorted whole sorted
    (c.in_ok-sort_by.ensures.sorted (held_before whole) (held_before-order whole) (answers_always _ _ _ (λ f a r h k.
    let answer : r ≡ point_cmp (plain_point whole a.0.now.point) (plain_point whole a.1.0.now.point) = search rules in
    ap is_lt answer ∙ point_cmp-is_less (plain_point whole a.0.now.point) (plain_point whole a.1.0.now.point))))))

pub returns : goal.returns
returns g c = record {
  balanced = let whole = g.I.IntNumber.whole in
      let es = plain_edges whole g.C.EdgeCount.counts c.args.edges.now in
      let sorted = c.sort_by.new.self.items in
      let moved = subst (λ ns. IsPermutation ns (plain_ends whole sorted)) c.in_ok-ends.ensures.ok
      (IsPermutation-map (plain_end whole) c.in_ok-ends.ends.items sorted c.in_ok-sort_by.ensures.permutation) in (
        λ t. balanced_where_cancelled es (plain_ends whole sorted) moved
            (subst (λ ns. CancelOut (plain_ends whole ns)) c.deref.ensures.value (c.cancel_out.ensures.0 t)),
        λ balanced. c.cancel_out.ensures.1 (subst (λ ns. CancelOut (plain_ends whole ns)) (sym c.deref.ensures.value)
            (cancelled_where_balanced es (plain_ends whole sorted) moved balanced)),
      );
}
