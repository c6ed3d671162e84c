-- What is left is dropped, or is the last loop.
use Rattle.std.proofs.Common.{arith}
use Rattle.std.proofs.lemmas.List.{length-map, map-append}
use Rattle.overlay_extract.proofs.CutLoops.{short_ended, loop_ended}
use Rattle.overlay_extract.proofs.CutsInOrder.{cut_at_end_short, cut_at_end_long}
use Rattle.overlay_walk.specs.Steps.{plain_step, plain_steps}
use Rattle.overlay_walk.specs.Walks.{plain_walks}
use Rattle.overlay_extract.proofs.slicing.cutter.LoopCutter.into_loops.Goals as goal

pub returns-then-len-lt3-clause-cut : goal.returns-then-len-lt3-clause-cut
returns-then-len-lt3-clause-cut g c start walked so_far =
    let whole = g.I.IntNumber.whole in
    let few = c.if-len-lt3.true in
    let long = c.len.ensures in
    let same = length-map c.args.self.path.items (plain_step whole) in
    short_ended start walked (plain_steps whole c.args.self.path.items) (plain_walks whole c.args.self.loops.items)
    so_far (omega (arith, few, long, same))

pub returns-clause-cut : goal.returns-clause-cut
returns-clause-cut g c start walked so_far =
    let whole = g.I.IntNumber.whole in
    let many = c.if-len-lt3.false in
    let long = c.len.ensures in
    let same = length-map c.args.self.path.items (plain_step whole) in
    rw (c.in_ok-push.ensures.items, map-append)
    (loop_ended start walked (plain_steps whole c.args.self.path.items) (plain_walks whole c.args.self.loops.items)
    so_far (omega (arith, many, long, same)))

pub returns-then-len-lt3-clause-order : goal.returns-then-len-lt3-clause-order
returns-then-len-lt3-clause-order g c walk way =
    let whole = g.I.IntNumber.whole in
    let few = c.if-len-lt3.true in
    let long = c.len.ensures in
    let same = length-map c.args.self.path.items (plain_step whole) in
    cut_at_end_short walk (plain_steps whole c.args.self.path.items) (plain_walks whole c.args.self.loops.items)
    (omega (arith, few, long, same)) way

pub returns-clause-order : goal.returns-clause-order
returns-clause-order g c walk way =
    let whole = g.I.IntNumber.whole in
    let many = c.if-len-lt3.false in
    let long = c.len.ensures in
    let same = length-map c.args.self.path.items (plain_step whole) in
    rw (c.in_ok-push.ensures.items, map-append)
    (cut_at_end_long walk (plain_steps whole c.args.self.path.items) (plain_walks whole c.args.self.loops.items)
    (omega (arith, many, long, same)) way)
