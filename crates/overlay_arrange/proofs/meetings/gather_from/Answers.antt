-- A loop over the near edges of an edge. Each adds the points through which the two lead each other, and is marked if
-- it meets the edge elsewhere than in ends.
use Rattle.std.proofs.Common.{◌<◌, length, get_or, inl, inr, take, sym, subst, arith}
use Rattle.std.proofs.lemmas.List.{get_or_default, length-map, take_all, take_more}
use Rattle.overlay_geom.proofs.Mapped.{All-mapped_at}
use Rattle.overlay_order.specs.Content.{plain_edge, plain_edges, IsHeld}
use Rattle.overlay_pairs.proofs.Entries.{placed_in_mapped}
use Rattle.overlay_arrange.specs.Meetings.{plain_meetings, AreGathered}
use Rattle.overlay_arrange.proofs.GatheredMeetings.{begun, near_looked_at, pair_gathered}
use Rattle.overlay_arrange.proofs.GatheredMeetings.{IsLookedAt}
use Rattle.overlay_arrange.proofs.OpenPairs.{none_open, open_still, open_with_more, open_with_near, open_with_still}
use Rattle.overlay_arrange.proofs.OpenPairs.{AreOpenWith}
use Rattle.overlay_arrange.proofs.meetings.gather_from.Goals as goal
use Rattle.overlay_arrange.proofs.meetings.gather_from.Goals.{then-branch, else-branch}

pub loop-k-init : goal.loop-k-init
loop-k-init g c =
    let plain = plain_edge g.I.IntNumber.whole g.C.EdgeCount.counts in
    let es = plain_edges g.I.IntNumber.whole g.C.EdgeCount.counts c.args.edges.now in (
      begun es c.args.i (plain c.index-edges-i.result)
          (placed_in_mapped plain c.args.edges.now c.args.i c.index-edges-i.result c.requires.within c.index-edges-i.is)
          c.requires.gathered,
      c.requires.open,
      none_open es c.args.i c.args.is_open.now.items,
    )

pub offset_bounds-edges-j : goal.offset_bounds-edges-j
offset_bounds-edges-j g c =
    let plain = plain_edge g.I.IntNumber.whole g.C.EdgeCount.counts in
    let j = get_or c.args.near.now c.loop-k.k 0 in
    let at_e = placed_in_mapped plain c.args.edges.now c.args.i c.index-edges-i.result c.requires.within
    c.index-edges-i.is in
    let later = (c.requires.near (plain c.index-edges-i.result) at_e).within j (
      c.loop-k.k,
      c.loop-k-test.true,
      get_or_default c.args.near.now c.loop-k.k j 0 c.loop-k-test.true,
    ) in
    let l = length-map c.args.edges.now plain in
    let less = later.1 in
    omega (arith, l, less)

pub bounds-edges-j : goal.bounds-edges-j
bounds-edges-j g c =
    let plain = plain_edge g.I.IntNumber.whole g.C.EdgeCount.counts in
    let j = get_or c.args.near.now c.loop-k.k 0 in
    let at_e = placed_in_mapped plain c.args.edges.now c.args.i c.index-edges-i.result c.requires.within
    c.index-edges-i.is in
    let later = (c.requires.near (plain c.index-edges-i.result) at_e).within j (
      c.loop-k.k,
      c.loop-k-test.true,
      get_or_default c.args.near.now c.loop-k.k j 0 c.loop-k-test.true,
    ) in
    let l = length-map c.args.edges.now plain in
    let less = later.1 in
    omega (arith, l, less)

pub mark_open-requires-clause-one : goal.mark_open-requires-clause-one
mark_open-requires-clause-one g c =
    let l = length-map c.args.edges.now (plain_edge g.I.IntNumber.whole g.C.EdgeCount.counts) in
    let count = c.loop-k.invariant.1.count in
    omega (arith, l, count, c.requires.within)

pub mark_open-requires-clause-other : goal.mark_open-requires-clause-other
mark_open-requires-clause-other g c =
    let plain = plain_edge g.I.IntNumber.whole g.C.EdgeCount.counts in
    let j = get_or c.args.near.now c.loop-k.k 0 in
    let at_e = placed_in_mapped plain c.args.edges.now c.args.i c.index-edges-i.result c.requires.within
    c.index-edges-i.is in
    let later = (c.requires.near (plain c.index-edges-i.result) at_e).within j (
      c.loop-k.k,
      c.loop-k-test.true,
      get_or_default c.args.near.now c.loop-k.k j 0 c.loop-k-test.true,
    ) in
    let inside : j < length c.args.edges.now =
    (let l = length-map c.args.edges.now plain in let less = later.1 in omega (arith, l, less)) in
    let l = length-map c.args.edges.now plain in
    let count = c.loop-k.invariant.1.count in
    omega (arith, l, count, inside)

pub push_meetings-requires-clause-one : goal.push_meetings-requires-clause-one
push_meetings-requires-clause-one g c =
    All-mapped_at (IsHeld g.I.IntNumber.limit) (plain_edge g.I.IntNumber.whole g.C.EdgeCount.counts) c.args.edges.now
    c.args.i c.index-edges-i.result c.requires.within c.index-edges-i.is c.requires.held

pub push_meetings-requires-clause-other : goal.push_meetings-requires-clause-other
push_meetings-requires-clause-other g c =
    let plain = plain_edge g.I.IntNumber.whole g.C.EdgeCount.counts in
    let j = get_or c.args.near.now c.loop-k.k 0 in
    let at_e = placed_in_mapped plain c.args.edges.now c.args.i c.index-edges-i.result c.requires.within
    c.index-edges-i.is in
    let later = (c.requires.near (plain c.index-edges-i.result) at_e).within j (
      c.loop-k.k,
      c.loop-k-test.true,
      get_or_default c.args.near.now c.loop-k.k j 0 c.loop-k-test.true,
    ) in
    let inside : j < length c.args.edges.now =
    (let l = length-map c.args.edges.now plain in let less = later.1 in omega (arith, l, less)) in
    All-mapped_at (IsHeld g.I.IntNumber.limit) plain c.args.edges.now j c.index-edges-j.result inside
    c.index-edges-j.is c.requires.held

pub loop-k-preserved : goal.loop-k-preserved
loop-k-preserved g c =
    let whole = g.I.IntNumber.whole in
    let plain = plain_edge g.I.IntNumber.whole g.C.EdgeCount.counts in
    let j = get_or c.args.near.now c.loop-k.k 0 in
    let at_e = placed_in_mapped plain c.args.edges.now c.args.i c.index-edges-i.result c.requires.within
    c.index-edges-i.is in
    let later = (c.requires.near (plain c.index-edges-i.result) at_e).within j (
      c.loop-k.k,
      c.loop-k-test.true,
      get_or_default c.args.near.now c.loop-k.k j 0 c.loop-k-test.true,
    ) in
    let inside : j < length c.args.edges.now =
    (let l = length-map c.args.edges.now plain in let less = later.1 in omega (arith, l, less)) in
    let es = plain_edges whole g.C.EdgeCount.counts c.args.edges.now in
    let at_f = placed_in_mapped plain c.args.edges.now j c.index-edges-j.result inside c.index-edges-j.is in
    let i = c.args.i in
    let e = plain c.index-edges-i.result in
    let f = plain c.index-edges-j.result in
    let js = take c.loop-k.k c.args.near.now in
    let old = c.loop-k.is_open.items in
    let more = sym (take_more c.args.near.now c.loop-k.k 0 c.loop-k-test.true) in
    let gathered = subst
    (λ ks. AreGathered es (IsLookedAt i ks) (plain_meetings whole c.push_meetings.new.meetings.items)) more
    (pair_gathered es i e at_e js j f at_f c.loop-k.invariant.0 c.in_ok-push_meetings.ensures.ok) in
    elim c.if-branch.branch [
      | then-branch w ↦
          let new = w.mark_open.new.is_open.items in
          let marks = w.mark_open.ensures in
          rw (w.is_open-is) (
            gathered,
            open_still es i old new marks.count marks.stay c.loop-k.invariant.1,
            subst (λ ks. AreOpenWith es i ks new) more
                (open_with_more es i js j new e f at_e at_f (inl (inl marks.one))
                (open_with_still es i js old new marks.stay c.loop-k.invariant.2)),
          )
      | else-branch w ↦
          let settled = c.in_ok-push_meetings.ensures.open.0 w.if-branch.false in
          rw (w.is_open-is) (
            gathered,
            c.loop-k.invariant.1,
            subst (λ ks. AreOpenWith es i ks old) more
                (open_with_more es i js j old e f at_e at_f (inr settled) c.loop-k.invariant.2),
          )
    ]

pub returns-clause-ok : goal.returns-clause-ok
returns-clause-ok g c =
    let whole = g.I.IntNumber.whole in
    let plain = plain_edge whole g.C.EdgeCount.counts in
    let es = plain_edges whole g.C.EdgeCount.counts c.args.edges.now in
    near_looked_at es c.args.i (plain c.index-edges-i.result)
    (placed_in_mapped plain c.args.edges.now c.args.i c.index-edges-i.result c.requires.within c.index-edges-i.is)
    g.I.IntNumber.limit c.args.near.now c.requires.held c.requires.near
    (subst (λ js. AreGathered es (IsLookedAt c.args.i js) (plain_meetings whole c.loop-k.meetings.items))
    (take_all c.loop-k.k c.args.near.now c.loop-k-test.false) c.loop-k.invariant.0)

pub returns-clause-open : goal.returns-clause-open
returns-clause-open g c =
    let es = plain_edges g.I.IntNumber.whole g.C.EdgeCount.counts c.args.edges.now in
    let opens = c.loop-k.is_open.items in
    open_with_near es c.args.i c.args.near.now opens c.requires.near
    (subst (λ js. AreOpenWith es c.args.i js opens) (take_all c.loop-k.k c.args.near.now c.loop-k-test.false)
    c.loop-k.invariant.2) c.loop-k.invariant.1
