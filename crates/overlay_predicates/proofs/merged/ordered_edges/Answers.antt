-- The edges stay the same, in another order.
use Rattle.std.proofs.Common.{◌++◌, ap, subst, ◌∙◌}
use Rattle.std.specs.List.Sorted.{IsPermutation}
use Rattle.std.proofs.lemmas.List.Sorted.{IsPermutation-trans}
use Rattle.overlay_predicates.proofs.merged.ordered_edges.Goals as goal

pub returns : goal.returns
returns g c =
    subst (λ xs. IsPermutation xs c.sort_neighbours.new.items.items)
    (c.in_ok-extend_from_slice.ensures.items ∙ ap (λ xs. xs ++ c.args.edges.now) c.in_ok-ordered.ensures.items)
    (IsPermutation-trans _ _ _ c.in_ok-order_by_points.ensures.items c.sort_neighbours.ensures.permutation)
