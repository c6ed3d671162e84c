-- No edge of the walk comes before the edge of the step found.
use Rattle.std.proofs.Common.{take, map, All, sym, ◌∙◌, subst, arith}
use Rattle.std.proofs.lemmas.List.Elements.{All-nil, All-contains}
use Rattle.overlay_geom.specs.Plane.{edge_of}
use Rattle.overlay_geom.proofs.Mapped.{All-mapped_at, All-mapped_first, All-mapped_more, Contains-mapped, mapped_whole}
use Rattle.overlay_plane.proofs.Entries.{Contains-map}
use Rattle.overlay_walk.specs.Steps.{plain_step, plain_steps, IsLong}
use Rattle.overlay_extract.proofs.AnchorsFound.{NotBefore, anchor_found, still_first, step_forward, not_before_itself}
use Rattle.overlay_extract.proofs.binding.anchor.lowest_step.Goals as goal
use Rattle.overlay_extract.proofs.binding.anchor.lowest_step.Goals.{then-is_lt, else-is_lt}

pub loop-i-init : goal.loop-i-init
loop-i-init g c =
    let whole = g.I.IntNumber.whole in
    let walk = c.args.walk.now in (
      Contains-mapped (plain_step whole) walk 0 c.index-walk-0.result c.requires.some c.index-walk-0.is,
      All-nil (NotBefore (edge_of (plain_step whole c.index-walk-0.result))),
    )

pub compare_steps-requires-clause-one : goal.compare_steps-requires-clause-one
compare_steps-requires-clause-one g c =
    All-mapped_at (IsLong g.I.IntNumber.limit) (plain_step g.I.IntNumber.whole) c.args.walk.now c.loop-i.i
    c.index-walk-i.result c.loop-i-test.true c.index-walk-i.is c.requires.long

pub compare_steps-requires-clause-other : goal.compare_steps-requires-clause-other
compare_steps-requires-clause-other g c =
    let whole = g.I.IntNumber.whole in
    All-contains (IsLong g.I.IntNumber.limit) (plain_steps whole c.args.walk.now) (plain_step whole c.loop-i.lowest)
    c.requires.long c.loop-i.invariant.0

pub loop-i-preserved : goal.loop-i-preserved
loop-i-preserved g c =
    let whole = g.I.IntNumber.whole in
    let limit = g.I.IntNumber.limit in
    let walk = c.args.walk.now in
    let plain = plain_steps whole walk in
    let i = c.loop-i.i in
    let taken = c.index-walk-i.result in
    let old = plain_step whole c.loop-i.lowest in
    let step = plain_step whole taken in
    let here = Contains-mapped (plain_step whole) walk i taken c.loop-i-test.true c.index-walk-i.is in
    let found = sym c.compare_steps.ensures ∙ sym c.is_lt.ensures in
    elim c.if-is_lt.branch [
      | then-is_lt w ↦ rw w.lowest-is (
        here,
        All-mapped_more (NotBefore (edge_of step)) (plain_step whole) walk i taken c.loop-i-test.true
            c.index-walk-i.is
            (still_first limit (map (plain_step whole) (take i walk))
            (All-mapped_first (IsLong limit) (plain_step whole) walk i c.requires.long) (edge_of old) (edge_of step)
            (step_forward limit plain c.requires.long old c.loop-i.invariant.0)
            (step_forward limit plain c.requires.long step here) (found ∙ w.if-is_lt.true) c.loop-i.invariant.1)
            (not_before_itself limit plain c.requires.long step here),
      )
      | else-is_lt w ↦ rw w.lowest-is (
        c.loop-i.invariant.0,
        All-mapped_more (NotBefore (edge_of old)) (plain_step whole) walk i taken c.loop-i-test.true
            c.index-walk-i.is c.loop-i.invariant.1 (found ∙ w.if-is_lt.false),
      )
    ]

pub returns-clause-anchor : goal.returns-clause-anchor
returns-clause-anchor g c =
    let whole = g.I.IntNumber.whole in
    let steps = plain_steps whole c.args.walk.now in
    let lowest = plain_step whole c.loop-i.lowest in
    anchor_found steps (λ s at. (All-contains (IsLong g.I.IntNumber.limit) steps s c.requires.long at).apart)
    (edge_of lowest) (Contains-map edge_of steps lowest c.loop-i.invariant.0)
    (subst (All (NotBefore (edge_of lowest))) (mapped_whole (plain_step whole) c.args.walk.now c.loop-i.i
    (let past = c.loop-i-test.false in omega arith)) c.loop-i.invariant.1)
