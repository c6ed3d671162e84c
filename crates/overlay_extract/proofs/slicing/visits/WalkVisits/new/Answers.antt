-- In their order, the steps leave the points of the walk.
use Rattle.std.proofs.Common.{◌≡◌, length, subst, rules}
use Rattle.std.specs.List.Sorted.{IsPermutation}
use Rattle.overlay_extract.proofs.Visits.{all_left, none_noted}
use Rattle.overlay_extract.proofs.slicing.visits.WalkVisits.new.Goals as goal

pub returns-clause-noted : goal.returns-clause-noted
returns-clause-noted g c =
    let long : length c.resize.new.self.items ≡ length c.sort_steps.new.steps.items = search rules in
    none_noted g.I.IntNumber.whole c.sort_steps.new.steps.items c.resize.new.self.items
    c.in_ok-sort_steps.ensures.order long

pub returns-clause-left : goal.returns-clause-left
returns-clause-left g c =
    let sorted = c.sort_steps.new.steps.items in
    all_left g.I.IntNumber.whole sorted c.args.walk.now
    (subst (λ ss. IsPermutation ss sorted) c.in_ok-steps.ensures.items c.sort_steps.ensures.permutation)
