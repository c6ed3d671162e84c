-- The first open place behind the way back is found, or else the first one at the node.
use Rattle.overlay_walk.specs.Steps.{plain_hand, plain_step, plain_steps}
use Rattle.overlay_walk.proofs.NextInFans.{way_back_long, next_behind, next_in_fans}
use Rattle.overlay_walk.proofs.fans.place_in_fans.Goals as goal

pub count_up_to-behind-requires-clause-way_back : goal.count_up_to-behind-requires-clause-way_back
count_up_to-behind-requires-clause-way_back g c =
    way_back_long g.I.IntNumber.limit (plain_step g.I.IntNumber.whole c.args.step) c.requires.step

pub count_below-low-requires-clause-way_back : goal.count_below-low-requires-clause-way_back
count_below-low-requires-clause-way_back g c =
    way_back_long g.I.IntNumber.limit (plain_step g.I.IntNumber.whole c.args.step) c.requires.step

pub returns-in-Some-clause-next : goal.returns-in-Some-clause-next
returns-in-Some-clause-next g c =
    let whole = g.I.IntNumber.whole in
    next_behind g.I.IntNumber.limit (plain_hand c.args.hand) (plain_steps whole c.args.steps.now) c.args.taken.now
    c.args.fanned.now (plain_step whole c.args.step) c.requires.long c.requires.step c.requires.placed
    c.count_up_to-behind.result c.count_up_to-behind.ensures c.in-Some.place c.in-Some.ensures.first

pub returns-clause-next : goal.returns-clause-next
returns-clause-next g c =
    let whole = g.I.IntNumber.whole in
    next_in_fans g.I.IntNumber.limit (plain_hand c.args.hand) (plain_steps whole c.args.steps.now) c.args.taken.now
    c.args.fanned.now (plain_step whole c.args.step) c.requires.long c.requires.step c.requires.placed
    c.count_up_to-behind.result c.count_up_to-behind.ensures c.in_default.ensures.first c.count_below-low.result
    (c.count_below-low.ensures c.args.hand c.requires.placed) c.first_leaving-2.result c.first_leaving-2.ensures.first
