-- One place of the run after the other is looked at.
use Rattle.std.proofs.Common.{◌≤◌, true, false, sym, ap, ◌∙◌, arith}
use Rattle.std.proofs.lemmas.List.{length-map}
use Rattle.overlay_geom.specs.Plane.{Step, point_eq}
use Rattle.overlay_geom.specs.Points.{plain_point}
use Rattle.overlay_geom.proofs.Mapped.{All-mapped_at, read_mapped}
use Rattle.overlay_plane.specs.Turn.{no_step}
use Rattle.overlay_walk.specs.Steps.{plain_hand, plain_step, plain_steps, IsLong}
use Rattle.overlay_walk.proofs.NextPlaces.{next_place, place_added, place_passed}
use Rattle.overlay_walk.proofs.Runs.{run_until, leave_on}
use Rattle.overlay_walk.proofs.next.place_of_next.Goals as goal
use Rattle.overlay_walk.proofs.next.place_of_next.Goals.{then-is_open+then-add, else-is_open}
use Rattle.overlay_walk.proofs.next.place_of_next.Goals.{else-is_open-via-then-is_open+else-add}
use Rattle.overlay_walk.proofs.next.place_of_next.Goals.{else-is_open-via-else-is_open}

pub add-requires : goal.add-requires
add-requires g c =
    (All-mapped_at (IsLong g.I.IntNumber.limit) (plain_step g.I.IntNumber.whole) c.args.steps.now c.loop-i.i
    c.index-steps-i.result c.loop-i-test.true c.index-steps-i.is c.requires.long).to_in_range

pub loop-i-preserved : goal.loop-i-preserved
loop-i-preserved g c =
    let whole = g.I.IntNumber.whole in
    let steps = c.args.steps.now in
    let ss = plain_steps whole steps in
    let marks = c.args.taken.now in
    let hand = plain_hand c.args.hand in
    let v = plain_point whole c.args.step.to in
    let u = plain_point whole c.args.step.from in
    let low = c.count_leaving_below-low.result in
    let i = c.loop-i.i in
    let next = c.index-steps-i.result in
    let long = c.requires.step.apart in
    let held = c.loop-i.invariant.0 in
    let first = c.loop-i.invariant.1 in
    let above : low ≤ i = c.loop-i.auto.i in
    let end_is = ap (λ (s : Step). s.to)
    (sym (read_mapped (plain_step whole) steps i next no_step c.loop-i-test.true c.index-steps-i.is)) in
    let leave = leave_on whole steps c.requires.by_start v low i c.loop-i-test.true c.loop-i.invariant.2 next
    c.index-steps-i.is (sym c.is_same.ensures ∙ c.if-not-is_same.false) in
    elim c.if-is_open.branch [
      | then-is_open+then-add w ↦
          let added = place_added ss marks hand v u long low i c.loop-i.found above first
          (sym c.is_open.ensures ∙ w.if-is_open.true) c.loop-i.nearest w.add.new.self held _ end_is
          w.add.result true w.if-add.true w.add.ensures.nearer w.add.ensures.held in
          rw (w.nearest-is, w.found-is) (added.0, added.1, leave)
      | else-is_open w ↦ rw (w.nearest-is, w.found-is) (elim w.else-is_open.branch [
        | else-is_open-via-then-is_open+else-add w' ↦
            let added = place_added ss marks hand v u long low i c.loop-i.found above first
            (sym c.is_open.ensures ∙ w'.if-is_open.true) c.loop-i.nearest w'.add.new.self held _ end_is
            w'.add.result false w'.if-add.false w'.add.ensures.nearer w'.add.ensures.held in
            rw w'.nearest-is (added.0, added.1, leave)
        | else-is_open-via-else-is_open w' ↦ rw w'.nearest-is (
          held,
          place_passed ss marks hand v u long low i c.loop-i.found above first (sym c.is_open.ensures
              ∙ w'.if-is_open.false),
          leave,
        )
      ])
    ]

pub returns-then-not-is_same : goal.returns-then-not-is_same
returns-then-not-is_same g c =
    let whole = g.I.IntNumber.whole in
    let steps = c.args.steps.now in
    let s = plain_step whole c.args.step in
    let i = c.loop-i.i in
    next_place (plain_steps whole steps) c.args.taken.now (plain_hand c.args.hand) s c.count_leaving_below-low.result i
    (run_until whole steps c.requires.by_start s.to _ i c.count_leaving_below-low.ensures.parted (record {
      ordered = c.loop-i.auto.i;
      within = let l = length-map steps (plain_step whole) in omega (arith, c.loop-i-test.true);
      leave = c.loop-i.invariant.2;
      ends = λ h. ap (λ (t : Step). point_eq t.from s.to)
          (read_mapped (plain_step whole) steps i c.index-steps-i.result no_step c.loop-i-test.true c.index-steps-i.is)
          ∙ sym c.is_same.ensures ∙ c.if-not-is_same.true;
    })) c.loop-i.found c.loop-i.invariant.1

pub returns : goal.returns
returns g c =
    let whole = g.I.IntNumber.whole in
    let steps = c.args.steps.now in
    let s = plain_step whole c.args.step in
    let i = c.loop-i.i in
    let l = length-map steps (plain_step whole) in
    let past = c.loop-i-test.false in
    next_place (plain_steps whole steps) c.args.taken.now (plain_hand c.args.hand) s c.count_leaving_below-low.result i
    (run_until whole steps c.requires.by_start s.to _ i c.count_leaving_below-low.ensures.parted (record {
      ordered = c.loop-i.auto.i;
      within = let most = c.loop-i.auto.i-end c.count_leaving_below-low.ensures.within in omega arith;
      leave = c.loop-i.invariant.2;
      ends = λ h. absurd (omega (arith, h));
    })) c.loop-i.found c.loop-i.invariant.1
