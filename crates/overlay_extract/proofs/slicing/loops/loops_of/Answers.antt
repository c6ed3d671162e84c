-- One more tour is cut.
use Rattle.std.proofs.Common.{◌+◌, ◌++◌, take, drop, All, sym, subst, arith}
use Rattle.std.proofs.lemmas.List.{drop_all, map-append}
use Rattle.overlay_geom.proofs.Mapped.{All-mapped_at, mapped_more, mapped_rest, mapped_whole}
use Rattle.overlay_extract.specs.ClosedWalks.{IsClosedWalk, HasLength}
use Rattle.overlay_extract.specs.Tours.{AreCutIntoLoops}
use Rattle.overlay_extract.proofs.TourParts.{AreFoundSoFar, tour_found, all_found}
use Rattle.overlay_extract.proofs.ToursCut.{none_cut, walk_cut}
use Rattle.overlay_walk.specs.Steps.{plain_steps}
use Rattle.overlay_walk.specs.Walks.{plain_walks}
use Rattle.overlay_extract.proofs.slicing.loops.loops_of.Goals as goal

pub loop-i-init : goal.loop-i-init
loop-i-init g c = rw c.new-loops.ensures.items (none_cut, λ others are. are)

pub loops_of_tour-requires-clause-closed : goal.loops_of_tour-requires-clause-closed
loops_of_tour-requires-clause-closed g c =
    let whole = g.I.IntNumber.whole in
    rw c.deref.ensures.value
    (All-mapped_at IsClosedWalk (λ (w : _). plain_steps whole w.items) c.args.tours.now c.loop-i.i
    c.index-tours-i.result c.loop-i-test.true c.index-tours-i.is c.requires.closed)

pub loops_of_tour-requires-clause-long : goal.loops_of_tour-requires-clause-long
loops_of_tour-requires-clause-long g c =
    let whole = g.I.IntNumber.whole in
    rw c.deref.ensures.value (All-mapped_at (All HasLength) (λ (w : _). plain_steps whole w.items) c.args.tours.now
    c.loop-i.i c.index-tours-i.result c.loop-i-test.true c.index-tours-i.is c.requires.long)

pub loop-i-preserved : goal.loop-i-preserved
loop-i-preserved g c =
    let whole = g.I.IntNumber.whole in
    let l = c.loop-i in
    let tours = c.args.tours.now in
    let tour = c.index-tours-i.result in
    let added = plain_walks whole c.in_ok-of_tour.of_tour.items in
    let cut = rw c.deref.ensures.value at c.in_ok-of_tour.ensures.loops in
    let order = rw c.deref.ensures.value at c.in_ok-of_tour.ensures.order in
    rw (c.in_ok-append.ensures.items, map-append) (
      subst (λ ws. AreCutIntoLoops ws (plain_walks whole l.loops.items ++ added))
          (sym (mapped_more (λ (w : _). plain_steps whole w.items) tours l.i tour c.loop-i-test.true
          c.index-tours-i.is))
          (walk_cut (plain_walks whole (take l.i tours)) (plain_walks whole l.loops.items) l.invariant.0
          (plain_steps whole tour.items) added cut),
      tour_found (plain_walks whole tours) (plain_walks whole (drop (l.i + 1) tours)) (plain_walks whole l.loops.items)
          added (plain_steps whole tour.items)
          (subst (λ ws. AreFoundSoFar (plain_walks whole tours) ws (plain_walks whole l.loops.items))
          (mapped_rest (λ (w : _). plain_steps whole w.items) tours l.i tour c.loop-i-test.true c.index-tours-i.is)
          l.invariant.1) order,
    )

pub returns-clause-loops : goal.returns-clause-loops
returns-clause-loops g c =
    let whole = g.I.IntNumber.whole in
    let l = c.loop-i in
    let past = c.loop-i-test.false in
    subst (λ ws. AreCutIntoLoops ws (plain_walks whole l.loops.items))
    (mapped_whole (λ (w : _). plain_steps whole w.items) c.args.tours.now l.i (omega arith)) l.invariant.0

pub returns-clause-order : goal.returns-clause-order
returns-clause-order g c =
    let whole = g.I.IntNumber.whole in
    let l = c.loop-i in
    let tours = c.args.tours.now in
    let past = c.loop-i-test.false in
    all_found (plain_walks whole tours) (plain_walks whole l.loops.items)
    (subst (λ ws. AreFoundSoFar (plain_walks whole tours) (plain_walks whole ws) (plain_walks whole l.loops.items))
    (drop_all l.i tours (omega arith)) l.invariant.1)
