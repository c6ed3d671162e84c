-- The walk is cut step by step.
use Rattle.std.proofs.Common.{All, [], ◌+◌, take, drop, sym, subst, arith}
use Rattle.std.proofs.lemmas.List.{drop_all}
use Rattle.std.proofs.lemmas.Result.{IfOk-weaker}
use Rattle.overlay_geom.proofs.Mapped.{All-mapped_at, mapped_more, mapped_rest, mapped_whole}
use Rattle.overlay_extract.specs.ClosedWalks.{HasLength}
use Rattle.overlay_extract.specs.Repeats.{IsCutOnTheWay}
use Rattle.overlay_extract.specs.Visits.{IsLeft}
use Rattle.overlay_extract.proofs.CutsInOrder.{nothing_walked}
use Rattle.overlay_extract.proofs.CutPlaces.{IsOnItsWay, way_begun, way_goes_on, way_ended}
use Rattle.overlay_walk.specs.Steps.{plain_step, plain_steps}
use Rattle.overlay_walk.specs.Walks.{plain_walks}
use Rattle.overlay_extract.proofs.slicing.cutter.cut_loops.Goals as goal

pub loop-place-init : goal.loop-place-init
loop-place-init g c = rw (c.in_ok-cutter.ensures.path, c.in_ok-cutter.ensures.loops) (
  way_begun (plain_steps g.I.IntNumber.whole c.args.walk.now) c.requires.closed,
  nothing_walked (plain_steps g.I.IntNumber.whole c.args.walk.now),
  c.in_ok-visits.ensures.noted,
  c.in_ok-visits.ensures.left,
)

pub note-left-requires-clause-noted : goal.note-left-requires-clause-noted
note-left-requires-clause-noted g c = rw c.deref.ensures.value c.loop-place.invariant.2

pub note-left-requires-clause-left : goal.note-left-requires-clause-left
note-left-requires-clause-left g c =
    let whole = g.I.IntNumber.whole in
    All-mapped_at (λ s. IsLeft whole c.loop-place.visits.steps.items s.from) (plain_step whole) c.args.walk.now
    c.loop-place.place c.index-walk-place.result c.loop-place-test.true c.index-walk-place.is c.loop-place.invariant.3

pub visit-requires-clause-left : goal.visit-requires-clause-left
visit-requires-clause-left g c = rw c.deref.ensures.value at c.note-left.ensures.place

pub visit-requires-clause-long : goal.visit-requires-clause-long
visit-requires-clause-long g c =
    All-mapped_at HasLength (plain_step g.I.IntNumber.whole) c.args.walk.now c.loop-place.place
    c.index-walk-place.result c.loop-place-test.true c.index-walk-place.is c.requires.long

pub loop-place-preserved : goal.loop-place-preserved
loop-place-preserved g c =
    let whole = g.I.IntNumber.whole in
    let l = c.loop-place in
    let walk = c.args.walk.now in
    let step = c.index-walk-place.result in
    let path = plain_steps whole l.cutter.path.items in
    let loops = plain_walks whole l.cutter.loops.items in
    let new_path = plain_steps whole c.visit.new.self.path.items in
    let new_loops = plain_walks whole c.visit.new.self.loops.items in
    let walked = plain_steps whole (take l.place walk) in
    let rest = plain_steps whole (drop (l.place + 1) walk) in
    let left = mapped_rest (plain_step whole) walk l.place step c.loop-place-test.true c.index-walk-place.is in (
      subst (λ ss. IsOnItsWay ss rest new_path new_loops)
          (sym (mapped_more (plain_step whole) walk l.place step c.loop-place-test.true c.index-walk-place.is))
          (way_goes_on walked (plain_step whole step) rest path new_path loops new_loops
          (subst (λ ss. IsOnItsWay walked ss path loops) left l.invariant.0) c.in_ok-visit.ensures.on),
      c.in_ok-visit.ensures.order (plain_steps whole walk) rest
          (subst (λ ss. IsCutOnTheWay (plain_steps whole walk) path ss loops) left l.invariant.1),
      rw (c.in_ok-visit.ensures.path, c.note-left.ensures.steps)
          (rw c.deref.ensures.value at c.note-left.ensures.noted),
      subst (λ ss. All (λ s. IsLeft whole ss s.from) (plain_steps whole walk)) (sym c.note-left.ensures.steps)
          l.invariant.3,
    )

pub returns-clause-cut : goal.returns-clause-cut
returns-clause-cut g c =
    let whole = g.I.IntNumber.whole in
    let l = c.loop-place in
    let walk = c.args.walk.now in
    let path = plain_steps whole l.cutter.path.items in
    let loops = plain_walks whole l.cutter.loops.items in
    let past = c.loop-place-test.false in
    let all = subst (λ ss. IsOnItsWay ss [] path loops)
    (mapped_whole (plain_step whole) walk l.place (omega arith))
    (subst (λ ss. IsOnItsWay (plain_steps whole (take l.place walk)) (plain_steps whole ss) path loops)
    (drop_all l.place walk (omega arith)) l.invariant.0) in
    IfOk-weaker c.into_loops.result _ _
    (λ ls ends. way_ended (plain_steps whole walk) path loops (plain_walks whole ls.items) all ends)
    c.into_loops.ensures.cut

pub returns-clause-order : goal.returns-clause-order
returns-clause-order g c =
    let whole = g.I.IntNumber.whole in
    let l = c.loop-place in
    let walk = c.args.walk.now in
    let path = plain_steps whole l.cutter.path.items in
    let loops = plain_walks whole l.cutter.loops.items in
    let past = c.loop-place-test.false in
    IfOk-weaker c.into_loops.result _ _
    (λ ls ends. ends (plain_steps whole walk)
    (subst (λ ss. IsCutOnTheWay (plain_steps whole walk) path (plain_steps whole ss) loops)
    (drop_all l.place walk (omega arith)) l.invariant.1))
    c.into_loops.ensures.order
