-- The points stay the same three times. The comparison is an order, so the sorts put the points into it.
use Rattle.std.proofs.Common.{◌≡◌, Bool, ap, sym, subst, ◌∙◌, rules}
use Rattle.std.specs.List.Sorted.{IsSortedBy}
use Rattle.std.specs.Ordering.{is_lt}
use Rattle.std.proofs.lemmas.List.Sorted.{answers_always, IsPermutation-trans}
use Rattle.overlay_geom.specs.Points.{plain_point}
use Rattle.overlay_geom.specs.Resolved.{point_cmp}
use Rattle.overlay_geom.specs.declared.point.IntPoint.{IntPoint}
use Rattle.overlay_geom.proofs.PointComparisons.{point_cmp-is_order}
use Rattle.overlay_arrange.proofs.SortedPoints.{compared, is_smaller, is_smaller-order}
use Rattle.overlay_arrange.proofs.hot.put_in_order.Goals as goal

pub returns-clause-order : goal.returns-clause-order
returns-clause-order g c =
    let whole = g.I.IntNumber.whole in
    subst (λ (lt : IntPoint _ → IntPoint _ → Bool). IsSortedBy lt c.sort_by.new.self.items) (sym (compared whole))
    (c.in_ok-sort_by.ensures.sorted (is_smaller whole) (is_smaller-order whole)
    (answers_always _ _ _ (λ f a r h k.
    let answer : r ≡ point_cmp (plain_point whole a.0.now) (plain_point whole a.1.0.now) = search rules in
    ap is_lt (answer ∙ point_cmp-is_order (plain_point whole a.0.now) (plain_point whole a.1.0.now)))))

pub returns-then-sort_neighbours-clause-order : goal.returns-then-sort_neighbours-clause-order
returns-then-sort_neighbours-clause-order g c =
    let whole = g.I.IntNumber.whole in
    subst (λ (lt : IntPoint _ → IntPoint _ → Bool). IsSortedBy lt c.sort_neighbours.new.items.items)
    (sym (compared whole))
    (c.sort_neighbours.ensures.sorted c.if-sort_neighbours.true (is_smaller whole) (is_smaller-order whole)
    (λ v w o h.
    let answer : o ≡ point_cmp (plain_point whole v) (plain_point whole w) = search rules in
    ap is_lt (answer ∙ point_cmp-is_order (plain_point whole v) (plain_point whole w))))

pub returns-then-sort_neighbours-clause-permutation : goal.returns-then-sort_neighbours-clause-permutation
returns-then-sort_neighbours-clause-permutation g c =
    IsPermutation-trans _ _ _ c.order_by_points.ensures.items c.sort_neighbours.ensures.permutation

pub returns-clause-permutation : goal.returns-clause-permutation
returns-clause-permutation g c =
    IsPermutation-trans _ _ _ c.order_by_points.ensures.items
    (IsPermutation-trans _ _ _ c.sort_neighbours.ensures.permutation c.sort_by.ensures.permutation)

pub returns-in_err-sort_by-clause-permutation : goal.returns-in_err-sort_by-clause-permutation
returns-in_err-sort_by-clause-permutation g c =
    IsPermutation-trans _ _ _ c.order_by_points.ensures.items
    (IsPermutation-trans _ _ _ c.sort_neighbours.ensures.permutation c.sort_by.ensures.permutation)
