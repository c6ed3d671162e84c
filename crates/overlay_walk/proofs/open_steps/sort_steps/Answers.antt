-- The comparison is an order, so the sort puts the steps into it, unless they are in the order of their points.
use Rattle.std.proofs.Common.{◌≡◌, ap, ◌∙◌, rules}
use Rattle.std.specs.Ordering.{is_lt}
use Rattle.std.proofs.lemmas.List.Sorted.{answers_always, IsPermutation-trans}
use Rattle.overlay_geom.specs.Points.{plain_point}
use Rattle.overlay_order.specs.Content.{point_cmp}
use Rattle.overlay_walk.specs.Steps.{plain_step}
use Rattle.overlay_walk.proofs.Runs.{point_cmp-is_less, leaves_smaller, leaves_smaller-order, IsByFrom-from_sorted}
use Rattle.overlay_walk.proofs.open_steps.sort_steps.Goals as goal

pub returns-clause-order : goal.returns-clause-order
returns-clause-order g c =
    let whole = g.I.IntNumber.whole in
    IsByFrom-from_sorted whole c.sort_by.new.self.items
    (c.in_ok-sort_by.ensures.sorted (leaves_smaller whole) (leaves_smaller-order whole)
    (answers_always _ _ _ (λ f a r h k.
    let answer : r ≡ point_cmp (plain_step whole a.0.now).from (plain_step whole a.1.0.now).from = search rules in
    ap is_lt answer ∙ point_cmp-is_less (plain_step whole a.0.now).from (plain_step whole a.1.0.now).from)))

pub returns-then-is_in_order-clause-order : goal.returns-then-is_in_order-clause-order
returns-then-is_in_order-clause-order g c =
    let whole = g.I.IntNumber.whole in
    IsByFrom-from_sorted whole c.order_by_points.new.items.items
    (rw c.deref.ensures.value at c.is_in_order.ensures c.if-is_in_order.true (λ s. (plain_step whole s).from)
    (λ s p h. let answer : p ≡ s.from = search rules in ap (plain_point whole) answer))

pub returns-then-sort_neighbours-clause-order : goal.returns-then-sort_neighbours-clause-order
returns-then-sort_neighbours-clause-order g c =
    let whole = g.I.IntNumber.whole in
    IsByFrom-from_sorted whole c.sort_neighbours.new.items.items
    (c.sort_neighbours.ensures.sorted c.if-sort_neighbours.true (leaves_smaller whole) (leaves_smaller-order whole)
    (λ s t o h.
    let answer : o ≡ point_cmp (plain_step whole s).from (plain_step whole t).from = search rules in
    ap is_lt answer ∙ point_cmp-is_less (plain_step whole s).from (plain_step whole t).from))

pub returns-then-sort_neighbours-clause-permutation : goal.returns-then-sort_neighbours-clause-permutation
returns-then-sort_neighbours-clause-permutation g c =
    IsPermutation-trans _ _ _ c.order_by_points.ensures.items c.sort_neighbours.ensures.permutation

pub returns-clause-permutation : goal.returns-clause-permutation
returns-clause-permutation g c =
    IsPermutation-trans _ _ _ c.order_by_points.ensures.items
    (IsPermutation-trans _ _ _ c.sort_neighbours.ensures.permutation c.sort_by.ensures.permutation)

pub returns-in_err-sort_by-clause-permutation : goal.returns-in_err-sort_by-clause-permutation
returns-in_err-sort_by-clause-permutation g c =
    IsPermutation-trans _ _ _ c.order_by_points.ensures.items
    (IsPermutation-trans _ _ _ c.sort_neighbours.ensures.permutation c.sort_by.ensures.permutation)
