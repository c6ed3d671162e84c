-- Edges before the first place need no meetings. Each other edge adds the points through which it and the later edges
-- lead each other.
use Rattle.std.proofs.Common.{◌≡◌, List, length, sym, subst, arith}
use Rattle.std.proofs.lemmas.List.{length-map}
use Rattle.overlay_order.specs.Content.{plain_edge, plain_edges}
use Rattle.overlay_pairs.specs.Near.{AreNear}
use Rattle.overlay_arrange.specs.Meetings.{plain_meetings, AreGathered, HasBefore}
use Rattle.overlay_arrange.specs.declared.meetings.Meeting.{Meeting}
use Rattle.overlay_arrange.proofs.GatheredMeetings.{all_gathered, gathered_moved}
use Rattle.overlay_arrange.proofs.OpenPairs.{all_open, front_closed}
use Rattle.overlay_arrange.proofs.SettledFronts.{front_gathered}
use Rattle.overlay_arrange.proofs.meetings.gather.Goals as goal

pub loop-i-init : goal.loop-i-init
loop-i-init g c =
    let es = plain_edges g.I.IntNumber.whole g.C.EdgeCount.counts c.args.edges.now in
    let opens = c.resize.new.self.items in
    let l = length-map c.args.edges.now (plain_edge g.I.IntNumber.whole g.C.EdgeCount.counts) in
    let count : length opens ≡ length es = (let n = c.in_ok-resize.ensures.len in omega (arith, n, l)) in (
      subst (λ (ms : List (Meeting _)). AreGathered es (HasBefore c.args.from)
          (plain_meetings g.I.IntNumber.whole ms))
          (sym c.new-meetings.ensures.items)
          (front_gathered es g.I.IntNumber.limit c.args.from c.requires.held c.requires.settled),
      front_closed es c.args.from opens count c.requires.settled,
    )

pub gather_from-requires-clause-gathered : goal.gather_from-requires-clause-gathered
gather_from-requires-clause-gathered g c = c.loop-i.invariant.0

pub gather_from-requires-clause-open : goal.gather_from-requires-clause-open
gather_from-requires-clause-open g c = c.loop-i.invariant.1

pub gather_from-requires-clause-near : goal.gather_from-requires-clause-near
gather_from-requires-clause-near g c =
    subst (AreNear (plain_edges g.I.IntNumber.whole g.C.EdgeCount.counts c.args.edges.now) c.loop-i.i)
    (sym c.deref.ensures.value) c.in_ok-find_open.ensures.ok

pub loop-i-preserved : goal.loop-i-preserved
loop-i-preserved g c =
    let es = plain_edges g.I.IntNumber.whole g.C.EdgeCount.counts c.args.edges.now in
    let members = c.in_ok-most.ensures.ok in
    (gathered_moved es members.forth members.back c.in_ok-gather_from.ensures.ok, c.in_ok-gather_from.ensures.open)

pub returns-clause-ok : goal.returns-clause-ok
returns-clause-ok g c =
    let count = length-map c.args.edges.now (plain_edge g.I.IntNumber.whole g.C.EdgeCount.counts) in
    all_gathered (plain_edges g.I.IntNumber.whole g.C.EdgeCount.counts c.args.edges.now) c.loop-i.i
    (omega (arith, count, c.loop-i-test.false)) c.loop-i.invariant.0

pub returns-clause-open : goal.returns-clause-open
returns-clause-open g c =
    let count = length-map c.args.edges.now (plain_edge g.I.IntNumber.whole g.C.EdgeCount.counts) in
    all_open (plain_edges g.I.IntNumber.whole g.C.EdgeCount.counts c.args.edges.now) c.loop-i.i c.loop-i.is_open.items
    (omega (arith, count, c.loop-i-test.false)) c.loop-i.invariant.1
