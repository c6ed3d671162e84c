-- The meetings before the place have smaller places by the one right before it, the others have not by the one there.
use Rattle.std.proofs.Common.{arith}
use Rattle.overlay_arrange.proofs.MeetingRuns.{parted_at, place_at, smaller_before}
use Rattle.overlay_arrange.proofs.meetings.is_parted_at.Goals as goal
use Rattle.overlay_arrange.proofs.meetings.is_parted_at.Goals.{else-at-gt0-via-then-at-gt0+else-meetings-at}
use Rattle.overlay_arrange.proofs.meetings.is_parted_at.Goals.{else-at-gt0-via-else-at-gt0}

pub returns-then-at-meetings-2-clause-parted : goal.returns-then-at-meetings-2-clause-parted
returns-then-at-meetings-2-clause-parted g c = λ end.
    let whole = g.I.IntNumber.whole in
    let ms = c.args.meetings.now in
    let at = c.args.at in
    let i = c.args.i in
    let inside = c.if-at-meetings.false in
    parted_at whole ms c.requires i at (omega (arith, inside))
    (elim c.else-at-gt0.branch [
      | else-at-gt0-via-then-at-gt0+else-meetings-at w ↦ smaller_before whole ms c.requires at i
          w.index-meetings-at.result w.index-meetings-at.is (let past = inside in omega (arith, past))
          w.if-meetings-at.false
      | else-at-gt0-via-else-at-gt0 w ↦ λ k d next. let first = w.if-at-gt0.false in absurd (omega (arith, first, next))
    ])
    (λ d within. absurd (grind (arith, within, end)))

pub returns-else-at-meetings-2-clause-parted : goal.returns-else-at-meetings-2-clause-parted
returns-else-at-meetings-2-clause-parted g c = λ here.
    let whole = g.I.IntNumber.whole in
    let ms = c.args.meetings.now in
    let at = c.args.at in
    let i = c.args.i in
    let inside = c.if-at-meetings.false in
    let m = c.index-meetings-at-else-at-meetings-2.result in
    parted_at whole ms c.requires i at (omega (arith, inside))
    (elim c.else-at-gt0.branch [
      | else-at-gt0-via-then-at-gt0+else-meetings-at w ↦ smaller_before whole ms c.requires at i
          w.index-meetings-at.result w.index-meetings-at.is (let past = inside in omega (arith, past))
          w.if-meetings-at.false
      | else-at-gt0-via-else-at-gt0 w ↦ λ k d next. let first = w.if-at-gt0.false in absurd (omega (arith, first, next))
    ])
    (λ d within.
    let own = place_at whole ms c.requires at m m within c.index-meetings-at-else-at-meetings-2.is in
    let read = place_at whole ms c.requires at m d within c.index-meetings-at-else-at-meetings-2.is in
    grind (arith, own, read, here))
