-- The comparison is an order, so the sort puts the links into it.
use Rattle.std.proofs.Common.{◌≡◌, arith, rules}
use Rattle.std.specs.Ordering.{is_lt}
use Rattle.std.proofs.lemmas.List.Sorted.{answers_always, sorted_far}
use Rattle.overlay_extract.specs.ChildLinks.{is_link_before}
use Rattle.overlay_extract.proofs.LinkOrder.{is_link_before-order}
use Rattle.overlay_extract.proofs.child_link.sort_links.Goals as goal

pub returns-clause-order : goal.returns-clause-order
returns-clause-order g c =
    let sorted = c.sort_by.new.self.items in
    λ i j d less inside. sorted_far is_link_before is_link_before-order sorted
    (c.in_ok-sort_by.ensures.sorted is_link_before is_link_before-order (answers_always _ _ _ (λ f a r h k.
    let answer : is_lt r ≡ is_link_before a.0.now a.1.0.now = search rules in answer)))
    i j d (omega (arith, less)) inside
