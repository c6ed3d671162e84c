-- The run lies between the two fronts of the meetings.
use Rattle.overlay_arrange.proofs.MeetingRuns.{run_between}
use Rattle.overlay_arrange.proofs.meetings.run_at.Goals as goal

pub returns : goal.returns
returns g c =
    run_between g.I.IntNumber.whole c.args.meetings.now c.requires c.args.i _ _ c.count_before-low.ensures.within
    c.count_up_to.ensures.within c.count_before-low.ensures.parted c.count_up_to.ensures.parted
