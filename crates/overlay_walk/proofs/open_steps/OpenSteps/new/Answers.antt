-- Sorting permutes the steps, no mark is set, and no place is passed.
use Rattle.std.proofs.Common.{List, subst, sym, rules}
use Rattle.std.specs.List.{All}
use Rattle.std.specs.List.Sorted.{IsPermutation}
use Rattle.std.proofs.lemmas.List.Sorted.{IsPermutation-map, All-permutation}
use Rattle.overlay_walk.specs.Places.{ArePlacesTopFirst}
use Rattle.overlay_walk.specs.Steps.{plain_step, plain_steps, IsLong}
use Rattle.overlay_walk.specs.declared.step.Step.{Step as StepTaken}
use Rattle.overlay_walk.proofs.OpenPlaces.{unmarked-cleared}
use Rattle.overlay_walk.proofs.StartPlaces.{none_passed}
use Rattle.overlay_walk.proofs.open_steps.OpenSteps.new.Goals as goal

pub places_top_first-requires : goal.places_top_first-requires
places_top_first-requires g c =
    let whole = g.I.IntNumber.whole in
    let kept = IsPermutation-map (plain_step whole) c.args.steps.items c.sort_steps.new.steps.items
    c.sort_steps.ensures.permutation in
    subst (λ (ss : List (StepTaken g.row.I.Denot)). All (IsLong g.I.IntNumber.limit) (plain_steps whole ss))
    (sym c.deref.ensures.value)
    (All-permutation (IsLong g.I.IntNumber.limit) _ _ kept c.requires)

pub fans_of-requires : goal.fans_of-requires
fans_of-requires g c =
    let whole = g.I.IntNumber.whole in
    let kept = IsPermutation-map (plain_step whole) c.args.steps.items c.sort_steps.new.steps.items
    c.sort_steps.ensures.permutation in
    subst (λ (ss : List (StepTaken g.row.I.Denot)). All (IsLong g.I.IntNumber.limit) (plain_steps whole ss))
    (sym c.deref-4.ensures.value)
    (All-permutation (IsLong g.I.IntNumber.limit) _ _ kept c.requires)

pub invariant_of-result : goal.invariant_of-result
invariant_of-result g c =
    let whole = g.I.IntNumber.whole in
    let kept = IsPermutation-map (plain_step whole) c.args.steps.items c.sort_steps.new.steps.items
    c.sort_steps.ensures.permutation in
    record {
      marked = search rules;
      leaving = c.in_ok-sort_steps.ensures.order;
      long = All-permutation (IsLong g.I.IntNumber.limit) _ _ kept c.requires;
      starting = subst (λ (ss : List (StepTaken g.row.I.Denot)). ArePlacesTopFirst (plain_steps whole ss)
          c.in_ok-places.places.items) c.deref.ensures.value
          c.in_ok-places.ensures.ok;
      passing = none_passed c.resize.new.self.items c.in_ok-places.places.items;
      turning = rw c.deref-4.ensures.value at c.in_ok-fans.ensures.ok c.resize.new.self.items;
    }

pub returns : goal.returns
returns g c = record {
  all = subst (IsPermutation c.args.steps.items)
      (sym (unmarked-cleared c.sort_steps.new.steps.items c.new-taken.result.items c.resize.new.self.items
      c.len.result _
      c.new-taken.ensures.len c.new-taken.ensures.items c.in_ok-resize.ensures.items))
      c.sort_steps.ensures.permutation;
}
