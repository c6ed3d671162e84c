-- Sorted by their abscissas.
use Rattle.std.proofs.Common.{◌≡◌, ap, ◌∙◌, rules}
use Rattle.std.specs.Ordering.{is_lt, int_cmp}
use Rattle.std.proofs.lemmas.List.Sorted.{answers_always, IsPermutation-map}
use Rattle.overlay_geom.specs.Points.{plain_points}
use Rattle.overlay_geom.proofs.Comparisons.{is_lt-int_cmp}
use Rattle.overlay_relate.specs.Queries.{plain_query, plain_queries}
use Rattle.overlay_relate.proofs.Asked.{queries_sorted, is_left, is_left-order, by_x-from_sorted}
use Rattle.overlay_relate.proofs.queries.queries_by_x.Goals as goal

pub returns : goal.returns
returns g c = record {
  queries = let whole = g.I.IntNumber.whole in
      queries_sorted (plain_points whole c.args.points.now) (plain_queries whole c.in_ok-queries.queries.items)
      (plain_queries whole c.sort_by.new.self.items)
      c.in_ok-queries.ensures.ok (IsPermutation-map (plain_query whole) c.in_ok-queries.queries.items
      c.sort_by.new.self.items c.in_ok-sort_by.ensures.permutation)
      (by_x-from_sorted whole c.sort_by.new.self.items
      (c.in_ok-sort_by.ensures.sorted (is_left whole) (is_left-order whole) (answers_always _ _ _ (λ f a r h k.
      let answer : r ≡ int_cmp (whole a.0.now.point.x) (whole a.1.0.now.point.x) = search rules in
      ap is_lt answer ∙ is_lt-int_cmp (whole a.0.now.point.x) (whole a.1.0.now.point.x)))));
}
