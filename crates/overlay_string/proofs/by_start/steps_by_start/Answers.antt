-- The comparison is an order, so the sort puts the pieces into it, wherever they stood before.
use Rattle.std.proofs.Common.{◌≡◌, sym, ap, ◌∙◌, rules}
use Rattle.std.specs.Ordering.{is_lt, nat_cmp, ordering_then}
use Rattle.std.proofs.lemmas.List.{length-map}
use Rattle.std.proofs.lemmas.List.Sorted.{answers_always, IsPermutation-trans}
use Rattle.overlay_geom.specs.Resolved.{point_cmp}
use Rattle.overlay_walk.specs.Steps.{plain_step}
use Rattle.overlay_string.specs.Pieces.{plain_piece, plain_pieces}
use Rattle.overlay_string.proofs.PieceOrder.{comes_first, comes_first-order, compared_in_turn, sorted_by_start}
use Rattle.overlay_string.proofs.by_start.steps_by_start.Goals as goal

pub returns : goal.returns
returns g c = record {
  ok = let whole = g.I.IntNumber.whole in
      let pieces = c.args.pieces.now in
      let compares = answers_always _ _ _ (λ f a r h k.
      let answer : r ≡ ordering_then (point_cmp (plain_step whole a.0.now).from (plain_step whole a.1.0.now).from)
      (nat_cmp a.0.now.edge a.1.0.now.edge) = search rules in
      ap is_lt answer ∙ compared_in_turn whole a.0.now a.1.0.now) in
      sorted_by_start whole c.args.way (plain_pieces whole pieces) _ c.in_ok-steps.steps.items c.sort_by.new.self.items
      (sym (length-map pieces (plain_piece whole))) c.in_ok-steps.ensures.ok
      (IsPermutation-trans c.in_ok-steps.steps.items c.order_by_points.new.items.items c.sort_by.new.self.items
      c.order_by_points.ensures.items c.in_ok-sort_by.ensures.permutation)
      (c.in_ok-sort_by.ensures.sorted (comes_first whole) (comes_first-order whole) compares);
}
