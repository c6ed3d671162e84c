-- The comparison is the order of the places, so the sort puts the meetings into it.
use Rattle.std.proofs.Common.{◌≡◌, ap, ◌∙◌, rules}
use Rattle.std.specs.Ordering.{is_lt, nat_cmp}
use Rattle.std.proofs.lemmas.List.Sorted.{answers_always, IsPermutation-trans}
use Rattle.overlay_arrange.proofs.MeetingRuns.{AreByPlace-from_sorted, is_earlier, is_earlier-order, is_lt-nat_cmp}
use Rattle.overlay_arrange.proofs.meetings.sort_by_place.Goals as goal

pub returns-clause-order : goal.returns-clause-order
returns-clause-order g c =
    let whole = g.I.IntNumber.whole in
    AreByPlace-from_sorted whole c.sort_by.new.self.items
    (c.in_ok-sort_by.ensures.sorted (is_earlier whole) (is_earlier-order whole) (answers_always _ _ _ (λ f a r h k.
    let answer : r ≡ nat_cmp a.0.now.place a.1.0.now.place = search rules in
    ap is_lt answer ∙ is_lt-nat_cmp a.0.now.place a.1.0.now.place)))

pub returns-clause-permutation : goal.returns-clause-permutation
returns-clause-permutation g c =
    IsPermutation-trans c.args.meetings.now.items c.order_by_numbers.new.items.items c.sort_by.new.self.items
    c.order_by_numbers.ensures.items c.sort_by.ensures.permutation
