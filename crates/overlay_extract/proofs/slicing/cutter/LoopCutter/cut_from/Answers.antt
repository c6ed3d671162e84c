-- What leads back to the point is dropped, or is a loop.
use Rattle.std.proofs.Common.{length, ap, arith}
use Rattle.std.proofs.lemmas.List.{map-append}
use Rattle.overlay_extract.proofs.CutPlaces.{short_cut, loop_cut}
use Rattle.overlay_extract.proofs.CutsInOrder.{short_dropped, long_cut}
use Rattle.overlay_walk.specs.Walks.{plain_walks}
use Rattle.overlay_extract.proofs.slicing.cutter.LoopCutter.cut_from.Goals as goal

pub returns-then-len-lt3-clause-cut : goal.returns-then-len-lt3-clause-cut
returns-then-len-lt3-clause-cut g c start walked so_far =
    let whole = g.I.IntNumber.whole in
    let few = c.if-len-lt3.true in
    let long = c.len.ensures in
    let same = ap length c.in_ok-tail.ensures.tail in
    rw c.in_ok-tail.ensures.items
    (short_cut whole start walked c.args.self.now.path.items _ c.args.place c.requires so_far
    (omega (arith, few, long, same)))

pub returns-clause-cut : goal.returns-clause-cut
returns-clause-cut g c start walked so_far =
    let whole = g.I.IntNumber.whole in
    let many = c.if-len-lt3.false in
    let long = c.len.ensures in
    let same = ap length c.in_ok-tail.ensures.tail in
    rw (
      c.in_ok-tail.ensures.items,
      c.in_ok-push.ensures.items,
      map-append,
      c.rotate_left.ensures.items,
      c.in_ok-tail.ensures.tail,
    )
    (loop_cut whole start walked c.args.self.now.path.items (plain_walks whole c.args.self.now.loops.items)
    c.args.place c.requires so_far (omega (arith, many, long, same)))

pub returns-then-len-lt3-clause-order : goal.returns-then-len-lt3-clause-order
returns-then-len-lt3-clause-order g c walk t rest repeated way =
    let few = c.if-len-lt3.true in
    let long = c.len.ensures in
    let same = ap length c.in_ok-tail.ensures.tail in
    rw c.in_ok-tail.ensures.items
    (short_dropped g.I.IntNumber.whole walk rest c.args.self.now.path.items _ t c.args.place c.requires repeated way
    (omega (arith, few, long, same)))

pub returns-clause-order : goal.returns-clause-order
returns-clause-order g c walk t rest repeated way =
    let whole = g.I.IntNumber.whole in
    let many = c.if-len-lt3.false in
    let long = c.len.ensures in
    let same = ap length c.in_ok-tail.ensures.tail in
    rw (
      c.in_ok-tail.ensures.items,
      c.in_ok-push.ensures.items,
      map-append,
      c.rotate_left.ensures.items,
      c.in_ok-tail.ensures.tail,
    )
    (long_cut whole walk rest c.args.self.now.path.items (plain_walks whole c.args.self.now.loops.items) t
    c.args.place c.requires repeated way (omega (arith, many, long, same)))
