-- The comparison is an order, so the sort puts the places into it.
use Rattle.std.proofs.Common.{◌<◌, length, All, subst, sym, rules, of_calls}
use Rattle.std.specs.List.Sorted.{IsSortedBy}
use Rattle.std.proofs.lemmas.Fn.{always_returns_same}
use Rattle.std.proofs.lemmas.List.{length-map}
use Rattle.std.proofs.lemmas.List.Sorted.{IsPermutation-trans, All-permutation}
use Rattle.overlay_geom.proofs.Mapped.{All-mapped_at}
use Rattle.overlay_walk.specs.Steps.{plain_step, plain_steps, IsLong}
use Rattle.overlay_walk.proofs.StartsCompared.{place_before, place_before-order, top_first_from_sorted}
use Rattle.overlay_walk.proofs.top_first.sort_top_first.Goals as goal

pub invariant_of-starts : goal.invariant_of-starts
invariant_of-starts g c = record {
  steps_are_long = c.requires.long;
  behind_is_long = All-mapped_at (IsLong g.I.IntNumber.limit) (plain_step g.I.IntNumber.whole) c.args.steps.now 0
      c.first-item.result c.in-len1-up.len_at_least c.first-item.is c.requires.long;
}

pub returns-then-are_in_order-clause-order : goal.returns-then-are_in_order-clause-order
returns-then-are_in_order-clause-order g c =
    let whole = g.I.IntNumber.whole in
    let limit = g.I.IntNumber.limit in
    let ss = plain_steps whole c.args.steps.now in
    let last = All-mapped_at (IsLong limit) (plain_step whole) c.args.steps.now 0 c.first-item.result
    c.in-len1-up.len_at_least c.first-item.is c.requires.long in
    let places = c.args.places.now.items in
    top_first_from_sorted limit ss (plain_step whole c.first-item.result) c.requires.long last places
    (subst (λ n. All (λ k. k < n) places) (sym (length-map c.args.steps.now (plain_step whole))) c.requires.within)
    (subst (IsSortedBy (place_before limit ss (plain_step whole c.first-item.result) c.requires.long last))
    c.deref.ensures.value (c.are_in_order.ensures c.if-are_in_order.true))

pub returns-then-sort_neighbours-clause-order : goal.returns-then-sort_neighbours-clause-order
returns-then-sort_neighbours-clause-order g c =
    let whole = g.I.IntNumber.whole in
    let limit = g.I.IntNumber.limit in
    let ss = plain_steps whole c.args.steps.now in
    let behind = plain_step whole c.first-item.result in
    let last = All-mapped_at (IsLong limit) (plain_step whole) c.args.steps.now 0 c.first-item.result
    c.in-len1-up.len_at_least c.first-item.is c.requires.long in
    let inside = subst (λ n. All (λ k. k < n) c.args.places.now.items)
    (sym (length-map c.args.steps.now (plain_step whole))) c.requires.within in
    let places = c.sort_neighbours.new.items.items in
    let moved = c.sort_neighbours.ensures.permutation in
    top_first_from_sorted limit ss behind c.requires.long last places
    (All-permutation (λ k. k < length ss) c.args.places.now.items places moved inside)
    (c.sort_neighbours.ensures.sorted c.if-sort_neighbours.true (place_before limit ss behind c.requires.long last)
    (place_before-order limit ss behind c.requires.long last)
    (λ j k o h. search rules))

pub returns-clause-permutation : goal.returns-clause-permutation
returns-clause-permutation g c =
    IsPermutation-trans _ _ _ c.sort_neighbours.ensures.permutation c.sort_by.ensures.permutation

pub returns-clause-order : goal.returns-clause-order
returns-clause-order g c =
    let whole = g.I.IntNumber.whole in
    let limit = g.I.IntNumber.limit in
    let ss = plain_steps whole c.args.steps.now in
    let behind = plain_step whole c.first-item.result in
    let last = All-mapped_at (IsLong limit) (plain_step whole) c.args.steps.now 0 c.first-item.result
    c.in-len1-up.len_at_least c.first-item.is c.requires.long in
    let inside = subst (λ n. All (λ k. k < n) c.args.places.now.items)
    (sym (length-map c.args.steps.now (plain_step whole))) c.requires.within in
    let places = c.sort_by.new.self.items in
    let moved = IsPermutation-trans c.args.places.now.items c.sort_neighbours.new.items.items places
    c.sort_neighbours.ensures.permutation c.sort_by.ensures.permutation in
    top_first_from_sorted limit ss behind c.requires.long last places
    (All-permutation (λ k. k < length ss) c.args.places.now.items places moved inside)
    (c.in_ok-sort_by.ensures.sorted (place_before limit ss behind c.requires.long last)
    (place_before-order limit ss behind c.requires.long last)
    (always_returns_same _ _ _ (λ a r f k. search (rules, of_calls))))
