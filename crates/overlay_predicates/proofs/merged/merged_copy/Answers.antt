-- The ordered edges are a content, and merge to the edges to which the content merges.
use Rattle.std.proofs.Common.{sym, subst}
use Rattle.std.proofs.lemmas.List.Sorted.{IsPermutation-map}
use Rattle.overlay_geom.specs.Merged.{IsMerged}
use Rattle.overlay_plane.specs.Carried.{edges_in}
use Rattle.overlay_order.specs.Content.{plain_edge, plain_edges, IsContent}
use Rattle.overlay_order.specs.Counts.{boolean_counts}
use Rattle.overlay_arrange.proofs.MergedContent.{IsContent-shuffled}
use Rattle.overlay_predicates.proofs.OrderedMerges.{merged_of_shuffled}
use Rattle.overlay_predicates.proofs.merged.merged_copy.Goals as goal

pub content_of-requires : goal.content_of-requires
content_of-requires g c =
    subst (λ xs. IsContent g.I.IntNumber.limit (plain_edges g.I.IntNumber.whole boolean_counts xs))
    (sym c.deref.ensures.value)
    (IsContent-shuffled g.I.IntNumber.limit _ _
    (IsPermutation-map (plain_edge g.I.IntNumber.whole boolean_counts) _ _ c.in_ok-ordered.ensures)
    (subst (IsContent g.I.IntNumber.limit) (sym c.edges.ensures.plain) c.edges.ensures.content))

pub returns-clause-merged : goal.returns-clause-merged
returns-clause-merged g c =
    let plain = plain_edges g.I.IntNumber.whole boolean_counts in
    let new = edges_in c.merge.new.self in
    subst (λ es. IsMerged es new) c.edges.ensures.plain
    (merged_of_shuffled (plain c.edges.result.now) (plain c.in_ok-ordered.ordered.items) new
    (IsPermutation-map (plain_edge g.I.IntNumber.whole boolean_counts) _ _ c.in_ok-ordered.ensures)
    (subst (λ xs. IsMerged (plain xs) new) c.deref.ensures.value
    (subst (λ es. IsMerged es new) c.in_ok-merged.ensures.copy c.in_ok-merge.ensures.ok)))
