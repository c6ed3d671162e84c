-- Sorted, they are in order.
use Rattle.std.proofs.Common.{◌≡◌, ap, ◌∙◌, rules, subst}
use Rattle.std.specs.List.Sorted.{IsPermutation}
use Rattle.std.specs.Ordering.{is_lt}
use Rattle.std.proofs.lemmas.List.Sorted.{answers_always, IsPermutation-map}
use Rattle.overlay_geom.specs.Edges.{ends_of}
use Rattle.overlay_order.specs.Content.{plain_edge, edge_cmp}
use Rattle.overlay_order.specs.Counts.{boolean_counts}
use Rattle.overlay_parts.proofs.EdgeOrder.{edge_cmp-is_less, held_lt, held_lt-order, IsInOrder-from_sorted}
use Rattle.overlay_relate.specs.Resolved.{edges_once, ends_once}
use Rattle.overlay_relate.proofs.resolved.sorted_edges.Goals as goal

pub returns-clause-same : goal.returns-clause-same
returns-clause-same g c =
    let whole = g.I.IntNumber.whole in
    let given = c.in_ok-sorted.sorted.items in
    let sorted = c.sort_by.new.self.items in
    subst (λ es. IsPermutation es (ends_once whole sorted)) c.in_ok-sorted.ensures.ok
    (IsPermutation-map ends_of (edges_once whole given) (edges_once whole sorted)
    (IsPermutation-map (plain_edge whole boolean_counts) given sorted c.in_ok-sort_by.ensures.permutation))

pub returns-clause-order : goal.returns-clause-order
returns-clause-order g c =
    let whole = g.I.IntNumber.whole in
    IsInOrder-from_sorted whole boolean_counts c.sort_by.new.self.items
    (c.in_ok-sort_by.ensures.sorted (held_lt whole boolean_counts) (held_lt-order whole boolean_counts)
    (answers_always _ _ _ (λ f a r h k.
    let answer : r ≡ edge_cmp (plain_edge whole boolean_counts a.0.now) (plain_edge whole boolean_counts a.1.0.now)
    = search rules in
    ap is_lt answer
    ∙ edge_cmp-is_less (plain_edge whole boolean_counts a.0.now) (plain_edge whole boolean_counts a.1.0.now))))
