-- A loop over the meetings: each lies on its edge's line, or the answer is no.
use Rattle.std.proofs.Common.{◌≡◌, ◌<◌, ℕ, ℤ, List, All, length, get_or, refl, subst, arith}
use Rattle.std.proofs.lemmas.List.{length-map}
use Rattle.overlay_geom.specs.Counts.{Counts}
use Rattle.overlay_geom.specs.Points.{InRange}
use Rattle.overlay_geom.proofs.Mapped.{mapped_whole, All-mapped_at, All-mapped_more, Contains-mapped}
use Rattle.overlay_order.specs.Content.{plain_edge, plain_edges, IsHeld}
use Rattle.overlay_order.specs.declared.edge.CountedEdge.{CountedEdge}
use Rattle.overlay_pairs.proofs.Entries.{one_entry, placed_in_mapped}
use Rattle.overlay_arrange.specs.Cut.{IsOnLineOf}
use Rattle.overlay_arrange.specs.Meetings.{plain_meeting, plain_meetings, AreMeetings, IsOnItsLine}
use Rattle.overlay_arrange.specs.Meetings.{Meeting as PlainMeeting}
use Rattle.overlay_arrange.specs.declared.meetings.Meeting.{Meeting}
use Rattle.overlay_arrange.proofs.LedThrough.{meetings_in_range}
use Rattle.overlay_arrange.proofs.MeetingsOnLines.{whole_by_meetings}
use Rattle.overlay_arrange.proofs.whole.are_whole.Goals as goal

-- an edge stands at the place of each meeting
has_place : {I C : Type 0} (whole : I → ℤ) (counts : C → Counts) (edges : List (CountedEdge I C))
    (ms : List (Meeting I)) (k : ℕ) (m : Meeting I) →
    AreMeetings (plain_edges whole counts edges) (plain_meetings whole ms) →
    k < length ms → m ≡ get_or ms k m → m.place < length edges
has_place whole counts edges ms k m meetings within is =
    let led = meetings.led (plain_meeting whole m) (Contains-mapped (plain_meeting whole) ms k m within is) in
    let inside = led.1.0 in
    let count = length-map edges (plain_edge whole counts) in
    omega arith

pub offset_bounds-edges-m : goal.offset_bounds-edges-m
offset_bounds-edges-m g c =
    let inside = has_place g.I.IntNumber.whole g.C.EdgeCount.counts c.args.edges.now c.args.meetings.now
    c.loop-m.m-index c.m-item.result c.requires.meetings c.loop-m-test.true c.m-item.is in omega arith

pub bounds-edges-m : goal.bounds-edges-m
bounds-edges-m g c =
    has_place g.I.IntNumber.whole g.C.EdgeCount.counts c.args.edges.now c.args.meetings.now
    c.loop-m.m-index c.m-item.result c.requires.meetings c.loop-m-test.true c.m-item.is

pub is_on_line-requires-clause-edge : goal.is_on_line-requires-clause-edge
is_on_line-requires-clause-edge g c =
    All-mapped_at (IsHeld g.I.IntNumber.limit) (plain_edge g.I.IntNumber.whole g.C.EdgeCount.counts) c.args.edges.now
    c.m-item.result.place c.index-edges-m.result
    (has_place g.I.IntNumber.whole g.C.EdgeCount.counts c.args.edges.now c.args.meetings.now
    c.loop-m.m-index c.m-item.result c.requires.meetings c.loop-m-test.true c.m-item.is)
    c.index-edges-m.is c.requires.held

pub is_on_line-requires-clause-point : goal.is_on_line-requires-clause-point
is_on_line-requires-clause-point g c =
    All-mapped_at (λ (m : PlainMeeting). InRange g.I.IntNumber.limit m.point) (plain_meeting g.I.IntNumber.whole)
    c.args.meetings.now c.loop-m.m-index c.m-item.result c.loop-m-test.true c.m-item.is
    (meetings_in_range g.I.IntNumber.limit (plain_edges g.I.IntNumber.whole g.C.EdgeCount.counts c.args.edges.now)
    c.requires.held (plain_meetings g.I.IntNumber.whole c.args.meetings.now) c.requires.meetings)

pub returns-then-not-is_on_line : goal.returns-then-not-is_on_line
returns-then-not-is_on_line g c =
    let plain = plain_edge g.I.IntNumber.whole g.C.EdgeCount.counts in
    let es = plain_edges g.I.IntNumber.whole g.C.EdgeCount.counts c.args.edges.now in
    let inside = has_place g.I.IntNumber.whole g.C.EdgeCount.counts c.args.edges.now c.args.meetings.now
    c.loop-m.m-index c.m-item.result c.requires.meetings c.loop-m-test.true c.m-item.is in
    let law = whole_by_meetings g.I.IntNumber.limit es c.requires.held
    (plain_meetings g.I.IntNumber.whole c.args.meetings.now) c.requires.meetings in (
      λ h. absurd (cc),
      λ whole. c.if-not-is_on_line.ensures.1
          (All-mapped_at (IsOnItsLine es) (plain_meeting g.I.IntNumber.whole) c.args.meetings.now c.loop-m.m-index
          c.m-item.result c.loop-m-test.true c.m-item.is (law.1 whole) (plain c.index-edges-m.result)
          (placed_in_mapped plain c.args.edges.now c.m-item.result.place c.index-edges-m.result inside
          c.index-edges-m.is)),
    )

pub loop-m-preserved : goal.loop-m-preserved
loop-m-preserved g c =
    let plain = plain_edge g.I.IntNumber.whole g.C.EdgeCount.counts in
    let es = plain_edges g.I.IntNumber.whole g.C.EdgeCount.counts c.args.edges.now in
    let inside = has_place g.I.IntNumber.whole g.C.EdgeCount.counts c.args.edges.now c.args.meetings.now
    c.loop-m.m-index c.m-item.result c.requires.meetings c.loop-m-test.true c.m-item.is in
    let placed = placed_in_mapped plain c.args.edges.now c.m-item.result.place c.index-edges-m.result inside
    c.index-edges-m.is in
    let m = plain_meeting g.I.IntNumber.whole c.m-item.result in
    All-mapped_more (IsOnItsLine es) (plain_meeting g.I.IntNumber.whole) c.args.meetings.now c.loop-m.m-index
    c.m-item.result c.loop-m-test.true c.m-item.is c.loop-m.invariant
    (λ e at_e. subst (λ f. IsOnLineOf f m.point)
    (one_entry es m.place (plain c.index-edges-m.result) e placed at_e) (c.if-not-is_on_line.ensures.0 refl))

pub returns : goal.returns
returns g c =
    let es = plain_edges g.I.IntNumber.whole g.C.EdgeCount.counts c.args.edges.now in
    let law = whole_by_meetings g.I.IntNumber.limit es c.requires.held
    (plain_meetings g.I.IntNumber.whole c.args.meetings.now) c.requires.meetings in (
      λ _. law.0 (subst (All (IsOnItsLine es)) (mapped_whole (plain_meeting g.I.IntNumber.whole) c.args.meetings.now
          c.loop-m.m-index c.loop-m-test.false) c.loop-m.invariant),
      λ _. refl,
    )
