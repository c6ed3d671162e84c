-- Sorted, two points that follow one another tell of one that stands twice.
use Rattle.std.proofs.Common.{◌≡◌, sym, ap, ◌∙◌, rules}
use Rattle.std.specs.List.Sorted.{IsPermutation}
use Rattle.std.specs.Ordering.{is_lt}
use Rattle.std.proofs.lemmas.List.Sorted.{answers_always, IsPermutation-trans}
use Rattle.overlay_geom.specs.Points.{plain_point, plain_points}
use Rattle.overlay_geom.specs.Resolved.{point_cmp}
use Rattle.overlay_geom.proofs.PointComparisons.{point_cmp-is_less}
use Rattle.overlay_walk.specs.PointsOnce.{all_next_differ}
use Rattle.overlay_walk.proofs.OnceSorted.{held_before, held_before-order, once_by_sorting}
use Rattle.overlay_walk.proofs.points_once.are_different.Goals as goal

pub returns : goal.returns
returns g c = record {
  ok = let whole = g.I.IntNumber.whole in
      let sorted = c.sort_by.new.self.items in
      let moved : IsPermutation c.args.points.items sorted = IsPermutation-trans c.args.points.items
      c.order_by_points.new.items.items sorted c.in_ok-order_by_points.ensures.items
      c.in_ok-sort_by.ensures.permutation in
      let told = once_by_sorting whole c.args.points.items sorted moved
      (c.in_ok-sort_by.ensures.sorted (held_before whole) (held_before-order whole) (answers_always _ _ _ (λ f a r h k.
      let answer : r ≡ point_cmp (plain_point whole a.0.now) (plain_point whole a.1.0.now) = search rules in
      ap is_lt answer ∙ point_cmp-is_less (plain_point whole a.0.now) (plain_point whole a.1.0.now)))) in
      let test : c.all_next_differ.result ≡ all_next_differ (plain_points whole sorted) =
      c.all_next_differ.ensures ∙ ap (λ ps. all_next_differ (plain_points whole ps)) c.deref.ensures.value in
      ((λ t. told.0 (sym test ∙ t)), (λ once. test ∙ told.1 once));
}
