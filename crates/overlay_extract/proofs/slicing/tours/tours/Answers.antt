-- Each orbit is split, and the tours are put in order.
use Rattle.std.proofs.Common.{◌≡◌, [], ◌++◌, take, All, rules, sym, subst, arith}
use Rattle.std.specs.Ordering.{is_lt}
use Rattle.std.proofs.lemmas.List.{map-append}
use Rattle.std.proofs.lemmas.List.Elements.{All-nil}
use Rattle.std.proofs.lemmas.List.Sorted.{IsPermutation-map, All-permutation, answers_always}
use Rattle.overlay_geom.proofs.Mapped.{All-mapped_at, mapped_more, mapped_whole}
use Rattle.overlay_extract.specs.ClosedWalks.{IsClosedWalk}
use Rattle.overlay_extract.specs.TourOrder.{IsTourOfOne}
use Rattle.overlay_extract.specs.Tours.{AreSplitIntoTours}
use Rattle.overlay_extract.proofs.OrbitTours.{none_split, walk_split, split_shuffled}
use Rattle.overlay_extract.proofs.TourParts.{orbit_split}
use Rattle.overlay_extract.proofs.TourRanks.{held_before, held_before-order, in_order-from_sorted}
use Rattle.overlay_walk.specs.Steps.{plain_steps}
use Rattle.overlay_walk.specs.Walks.{plain_walks}
use Rattle.overlay_extract.proofs.slicing.tours.tours.Goals as goal

pub loop-i-init : goal.loop-i-init
loop-i-init g c = rw c.new-tours.ensures.items (none_split, All-nil (IsTourOfOne []))

pub tours_of-requires : goal.tours_of-requires
tours_of-requires g c =
    let whole = g.I.IntNumber.whole in
    rw c.deref.ensures.value
    (All-mapped_at IsClosedWalk (λ (w : _). plain_steps whole w.items) c.args.orbits.now c.loop-i.i
    c.index-orbits-i.result c.loop-i-test.true c.index-orbits-i.is c.requires)

pub loop-i-preserved : goal.loop-i-preserved
loop-i-preserved g c =
    let whole = g.I.IntNumber.whole in
    let l = c.loop-i in
    let orbits = c.args.orbits.now in
    let orbit = c.index-orbits-i.result in
    let added = plain_walks whole c.in_ok-of_orbit.of_orbit.items in
    let split = rw c.deref.ensures.value at c.in_ok-of_orbit.ensures.tours in
    let least = rw c.deref.ensures.value at c.in_ok-of_orbit.ensures.least in
    let one_more = sym (mapped_more (λ (w : _). plain_steps whole w.items) orbits l.i orbit c.loop-i-test.true
    c.index-orbits-i.is) in
    rw (c.in_ok-append.ensures.items, map-append) (
      subst (λ ws. AreSplitIntoTours ws (plain_walks whole l.tours.items ++ added)) one_more
          (walk_split (plain_walks whole (take l.i orbits)) (plain_walks whole l.tours.items) l.invariant.0
          (plain_steps whole orbit.items) added split.each_once split.closed),
      subst (λ ws. All (IsTourOfOne ws) (plain_walks whole l.tours.items ++ added)) one_more
          (orbit_split (plain_walks whole (take l.i orbits)) (plain_walks whole l.tours.items) l.invariant.1
          (plain_steps whole orbit.items) added least),
    )

pub returns-clause-tours : goal.returns-clause-tours
returns-clause-tours g c =
    let whole = g.I.IntNumber.whole in
    let l = c.loop-i in
    let orbits = c.args.orbits.now in
    let past = c.loop-i-test.false in
    split_shuffled (plain_walks whole orbits) (plain_walks whole l.tours.items)
    (plain_walks whole c.sort_by.new.self.items)
    (subst (λ ws. AreSplitIntoTours ws (plain_walks whole l.tours.items))
    (mapped_whole (λ (w : _). plain_steps whole w.items) orbits l.i (omega arith)) l.invariant.0)
    (IsPermutation-map (λ (w : _). plain_steps whole w.items) l.tours.items c.sort_by.new.self.items
    c.in_ok-sort_by.ensures.permutation)

pub returns-clause-order : goal.returns-clause-order
returns-clause-order g c =
    let whole = g.I.IntNumber.whole in
    let l = c.loop-i in
    let orbits = c.args.orbits.now in
    let past = c.loop-i-test.false in
    let sorted = c.sort_by.new.self.items in
    record {
      are = All-permutation (IsTourOfOne (plain_walks whole orbits)) (plain_walks whole l.tours.items)
          (plain_walks whole sorted)
          (IsPermutation-map (λ (w : _). plain_steps whole w.items) l.tours.items sorted
          c.in_ok-sort_by.ensures.permutation)
          (subst (λ ws. All (IsTourOfOne ws) (plain_walks whole l.tours.items))
          (mapped_whole (λ (w : _). plain_steps whole w.items) orbits l.i (omega arith)) l.invariant.1);
      order = in_order-from_sorted whole sorted (c.in_ok-sort_by.ensures.sorted (held_before whole)
          (held_before-order whole) (answers_always _ _ _ (λ f a r h k.
          let answer : is_lt r ≡ held_before whole a.0.now a.1.0.now = search rules in answer)));
    }
