-- A loop over the passed edges: each adds its meeting points, and edges between them none.
use Rattle.std.proofs.Common.{◌≡◌, ◌≢◌, ◌+◌, ◌<◌, map, length, get_or, sym, subst, arith}
use Rattle.std.proofs.lemmas.List.{get_or_default, length-map}
use Rattle.overlay_geom.specs.Edges.{CountedEdge, ends_of}
use Rattle.overlay_geom.specs.Resolved.{plain_edge as plain_ends, IsLongEdge}
use Rattle.overlay_geom.proofs.Mapped.{All-mapped_at, read_mapped}
use Rattle.overlay_order.specs.Content.{plain_edge, plain_edges, IsHeld}
use Rattle.overlay_pairs.proofs.Entries.{one_entry, placed_in_mapped}
use Rattle.overlay_exact.specs.AllMet.{AreMetBefore}
use Rattle.overlay_exact.specs.Along.{plain_mets, AddsMet}
use Rattle.overlay_exact.specs.Passed.{Passed, plain_passed}
use Rattle.overlay_exact.proofs.GatheredMet.{adds_alike, gathered_more, gathered_none, long_of_held}
use Rattle.overlay_exact.proofs.PassedEdges.{forward_held, gathers_none, gathers_to, gathers_more, gathers_all}
use Rattle.overlay_exact.proofs.PassedEdges.{passed_within}
use Rattle.overlay_exact.proofs.meetings.push_met_before.Goals as goal

pub loop-k-init : goal.loop-k-init
loop-k-init g c = λ e at.
    let es = plain_edges g.I.IntNumber.whole g.C.EdgeCount.counts c.args.edges.now in
    let whole = g.I.Wide.WideIntNumber.whole in
    gathers_none es c.args.i e (map (plain_passed g.I.IntNumber.whole) c.args.passed.now)
    (plain_mets whole c.args.met.now.items)
    (subst (λ ms. AreMetBefore es 0 c.args.i e (plain_mets whole ms)) (sym c.requires.empty)
    (gathered_none es c.args.i e))

pub offset_bounds-edges-j : goal.offset_bounds-edges-j
offset_bounds-edges-j g c =
    let plain = plain_edge g.I.IntNumber.whole g.C.EdgeCount.counts in
    let x = c.index-edges-i.result in
    let here = placed_in_mapped plain c.args.edges.now c.args.i x c.requires.within c.index-edges-i.is in
    let d = get_or c.args.passed.now c.loop-k.k c.index-passed-k.result in
    let before = passed_within g.I.IntNumber.whole (map plain c.args.edges.now) c.args.i (plain x).a.x c.args.passed.now
    c.loop-k.k d (c.requires.passed (plain x) here) c.loop-k-test.true
    (get_or_default c.args.passed.now c.loop-k.k c.index-passed-k.result d c.loop-k-test.true) in
    let within = c.requires.within in
    omega (arith, before, within)

pub bounds-edges-j : goal.bounds-edges-j
bounds-edges-j g c =
    let plain = plain_edge g.I.IntNumber.whole g.C.EdgeCount.counts in
    let x = c.index-edges-i.result in
    let here = placed_in_mapped plain c.args.edges.now c.args.i x c.requires.within c.index-edges-i.is in
    let d = get_or c.args.passed.now c.loop-k.k c.index-passed-k.result in
    let before = passed_within g.I.IntNumber.whole (map plain c.args.edges.now) c.args.i (plain x).a.x c.args.passed.now
    c.loop-k.k d (c.requires.passed (plain x) here) c.loop-k-test.true
    (get_or_default c.args.passed.now c.loop-k.k c.index-passed-k.result d c.loop-k-test.true) in
    let within = c.requires.within in
    omega (arith, before, within)

pub push_met-requires-clause-one : goal.push_met-requires-clause-one
push_met-requires-clause-one g c =
    let limit = g.I.IntNumber.limit in
    let plain = plain_edge g.I.IntNumber.whole g.C.EdgeCount.counts in
    subst (IsLongEdge limit) (sym c.ends_of-e.ensures)
    (long_of_held limit (plain c.index-edges-i.result)
    (All-mapped_at (IsHeld limit) plain c.args.edges.now c.args.i c.index-edges-i.result c.requires.within
    c.index-edges-i.is c.requires.held))

pub push_met-requires-clause-other : goal.push_met-requires-clause-other
push_met-requires-clause-other g c =
    let limit = g.I.IntNumber.limit in
    let plain = plain_edge g.I.IntNumber.whole g.C.EdgeCount.counts in
    let x = c.index-edges-i.result in
    let here = placed_in_mapped plain c.args.edges.now c.args.i x c.requires.within c.index-edges-i.is in
    let d = get_or c.args.passed.now c.loop-k.k c.index-passed-k.result in
    let before = passed_within g.I.IntNumber.whole (map plain c.args.edges.now) c.args.i (plain x).a.x c.args.passed.now
    c.loop-k.k d (c.requires.passed (plain x) here) c.loop-k-test.true
    (get_or_default c.args.passed.now c.loop-k.k c.index-passed-k.result d c.loop-k-test.true) in
    let within = c.requires.within in
    subst (IsLongEdge limit) (sym c.ends_of.ensures)
    (long_of_held limit (plain c.index-edges-j.result)
    (All-mapped_at (IsHeld limit) plain c.args.edges.now d.place c.index-edges-j.result
    (omega (arith, before, within)) c.index-edges-j.is c.requires.held))

pub loop-k-preserved : goal.loop-k-preserved
loop-k-preserved g c = λ e at.
    let whole = g.I.Wide.WideIntNumber.whole in
    let limit = g.I.IntNumber.limit in
    let plain = plain_edge g.I.IntNumber.whole g.C.EdgeCount.counts in
    let es = plain_edges g.I.IntNumber.whole g.C.EdgeCount.counts c.args.edges.now in
    let ps = map (plain_passed g.I.IntNumber.whole) c.args.passed.now in
    let i = c.args.i in
    let k = c.loop-k.k in
    let d = get_or c.args.passed.now k c.index-passed-k.result in
    let p = plain_passed g.I.IntNumber.whole d in
    let j = d.place in
    let x = c.index-edges-i.result in
    let y = c.index-edges-j.result in
    let old = plain_mets whole c.loop-k.met.items in
    let new = plain_mets whole c.push_met.new.met.items in
    let passed = c.requires.passed e at in
    let forward = forward_held limit es c.requires.held in
    let so_far = c.loop-k.invariant e at in
    let inside = c.loop-k-test.true in
    let l = length-map c.args.passed.now (plain_passed g.I.IntNumber.whole) in
    let more : k < length ps = omega (arith, l, inside) in
    let read = get_or_default c.args.passed.now k c.index-passed-k.result d inside in
    let is : get_or ps k p ≡ p = read_mapped (plain_passed g.I.IntNumber.whole) c.args.passed.now k d p inside read in
    let before = passed_within g.I.IntNumber.whole es i e.a.x c.args.passed.now k d passed inside read in
    let within = c.requires.within in
    let here = placed_in_mapped plain c.args.edges.now i x within c.index-edges-i.is in
    let there = placed_in_mapped plain c.args.edges.now j y (omega (arith, before, within)) c.index-edges-j.is in
    let adds : AddsMet (ends_of (plain x)) (ends_of (plain y)) j old new =
    adds_alike (plain_ends g.I.IntNumber.whole c.ends_of-e.result) (ends_of (plain x))
    (plain_ends g.I.IntNumber.whole c.ends_of.result) (ends_of (plain y)) j old new c.ends_of-e.ensures
    c.ends_of.ensures c.in_ok-push_met.ensures.ok in
    let apart : j ≢ i = (λ same. absurd (omega (arith, before, same))) in
    let to = subst (λ (q : Passed). AreMetBefore es q.place i e old) is
    (gathers_to es i e ps k old forward at passed so_far p more) in
    gathers_more es i e ps k old forward at passed so_far p more new
    (subst (λ (q : Passed). AreMetBefore es (q.place + 1) i e new) (sym is)
    (gathered_more es i e j (plain y) there apart old new to
    (subst (λ (f : CountedEdge). AddsMet (ends_of f) (ends_of (plain y)) j old new) (one_entry es i (plain x) e here at)
    adds)))

pub returns : goal.returns
returns g c =
    let whole = g.I.Wide.WideIntNumber.whole in
    let es = plain_edges g.I.IntNumber.whole g.C.EdgeCount.counts c.args.edges.now in
    let ps = map (plain_passed g.I.IntNumber.whole) c.args.passed.now in
    let ended = c.loop-k-test.false in
    let l = length-map c.args.passed.now (plain_passed g.I.IntNumber.whole) in
    record {
      ok = λ e at. gathers_all es c.args.i e ps c.loop-k.k (plain_mets whole c.loop-k.met.items)
          (forward_held g.I.IntNumber.limit es c.requires.held) at (c.requires.passed e at) (c.loop-k.invariant e at)
          (omega (arith, l, ended));
    }
