-- The meetings from there on come behind i, since they are sorted.
use Rattle.std.proofs.Common.{arith}
use Rattle.overlay_arrange.proofs.MeetingRuns.{ended_at, place_at}
use Rattle.overlay_arrange.proofs.meetings.count_up_to.Goals as goal

pub returns-else-meetings-high-clause-parted : goal.returns-else-meetings-high-clause-parted
returns-else-meetings-high-clause-parted g c =
    let whole = g.I.IntNumber.whole in
    let ms = c.args.meetings.now in
    let m = c.index-meetings-high.result in
    let more = c.if-meetings-high.false in
    ended_at whole ms c.requires.order c.args.i c.loop-high.high c.loop-high.invariant.1 (λ d within.
    let read = place_at whole ms c.requires.order c.loop-high.high m d within c.index-meetings-high.is in
    grind (arith, read, more))
