-- The comparison is an order, so the sort puts the places into it.
use Rattle.std.proofs.Common.{◌<◌, length, All, subst, sym, rules, of_calls}
use Rattle.std.proofs.lemmas.Fn.{always_returns_same}
use Rattle.std.proofs.lemmas.List.{length-map}
use Rattle.std.proofs.lemmas.List.Sorted.{IsPermutation-trans, All-permutation}
use Rattle.overlay_geom.proofs.Mapped.{All-mapped_at}
use Rattle.overlay_walk.specs.Steps.{plain_hand, plain_step, plain_steps, IsLong}
use Rattle.overlay_walk.proofs.FannedSteps.{fanned_before, fanned_before-order, fanned_from_sorted}
use Rattle.overlay_walk.proofs.fan_order.sort_fanned.Goals as goal

pub invariant_of-placed : goal.invariant_of-placed
invariant_of-placed g c = record {
  steps_are_long = c.requires.long;
  behind_is_long = All-mapped_at (IsLong g.I.IntNumber.limit) (plain_step g.I.IntNumber.whole) c.args.steps.now 0
      c.first-item.result c.in-len1-up.len_at_least c.first-item.is c.requires.long;
}

pub returns-then-sort_neighbours-clause-order : goal.returns-then-sort_neighbours-clause-order
returns-then-sort_neighbours-clause-order g c =
    let whole = g.I.IntNumber.whole in
    let limit = g.I.IntNumber.limit in
    let hand = plain_hand c.args.hand in
    let ss = plain_steps whole c.args.steps.now in
    let behind = plain_step whole c.first-item.result in
    let last = All-mapped_at (IsLong limit) (plain_step whole) c.args.steps.now 0 c.first-item.result
    c.in-len1-up.len_at_least c.first-item.is c.requires.long in
    let inside = subst (λ n. All (λ k. k < n) c.args.places.now.items)
    (sym (length-map c.args.steps.now (plain_step whole))) c.requires.within in
    let places = c.sort_neighbours.new.items.items in
    let moved = c.sort_neighbours.ensures.permutation in
    fanned_from_sorted hand limit ss behind c.requires.long last places
    (All-permutation (λ k. k < length ss) c.args.places.now.items places moved inside)
    (c.sort_neighbours.ensures.sorted c.if-sort_neighbours.true
    (fanned_before hand limit ss behind c.requires.long last)
    (fanned_before-order hand limit ss behind c.requires.long last)
    (λ j k o h. search rules))

pub returns-clause-permutation : goal.returns-clause-permutation
returns-clause-permutation g c =
    IsPermutation-trans _ _ _ c.sort_neighbours.ensures.permutation c.sort_by.ensures.permutation

pub returns-clause-order : goal.returns-clause-order
returns-clause-order g c =
    let whole = g.I.IntNumber.whole in
    let limit = g.I.IntNumber.limit in
    let hand = plain_hand c.args.hand in
    let ss = plain_steps whole c.args.steps.now in
    let behind = plain_step whole c.first-item.result in
    let last = All-mapped_at (IsLong limit) (plain_step whole) c.args.steps.now 0 c.first-item.result
    c.in-len1-up.len_at_least c.first-item.is c.requires.long in
    let inside = subst (λ n. All (λ k. k < n) c.args.places.now.items)
    (sym (length-map c.args.steps.now (plain_step whole))) c.requires.within in
    let places = c.sort_by.new.self.items in
    let moved = IsPermutation-trans c.args.places.now.items c.sort_neighbours.new.items.items places
    c.sort_neighbours.ensures.permutation c.sort_by.ensures.permutation in
    fanned_from_sorted hand limit ss behind c.requires.long last places
    (All-permutation (λ k. k < length ss) c.args.places.now.items places moved inside)
    (c.in_ok-sort_by.ensures.sorted (fanned_before hand limit ss behind c.requires.long last)
    (fanned_before-order hand limit ss behind c.requires.long last)
    (always_returns_same _ _ _ (λ a r f k. search (rules, of_calls))))
