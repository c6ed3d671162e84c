-- The meeting points of each edge stand between two starts, and its sides are added to those of the edges before it.
use Rattle.std.proofs.Common.{◌≡◌, All, length, map, slice_range, sym, subst, ap, arith}
use Rattle.std.proofs.lemmas.List.{length-map}
use Rattle.overlay_geom.specs.Rules.{is_filled}
use Rattle.overlay_geom.proofs.Mapped.{All-mapped_at, mapped_range}
use Rattle.overlay_order.specs.Content.{plain_edge, plain_edges, IsHeld}
use Rattle.overlay_pairs.proofs.Entries.{one_entry, placed_in_mapped}
use Rattle.overlay_exact.specs.AllMet.{AreMetOf, AreMetByStarts}
use Rattle.overlay_exact.specs.Along.{plain_met, plain_mets}
use Rattle.overlay_exact.specs.PointWindings.{AreLive}
use Rattle.overlay_exact.proofs.LiveEdges.{live_none}
use Rattle.overlay_exact.proofs.MetByStarts.{entry_at}
use Rattle.overlay_given.specs.Places.{AddsPlaces, ArePlacesBy}
use Rattle.overlay_given.specs.Walk.{AreSidesOf, WindsAtStart}
use Rattle.overlay_given.proofs.PlacesBy.{places_none, places_by_more}
use Rattle.overlay_given.proofs.MoreSides.{sides_none, sides_more}
use Rattle.overlay_given.proofs.StartSums.{starts_alike}
use Rattle.overlay_given.proofs.WalkSteps.{at_start, at_next, starts_rise, start_within}
use Rattle.overlay_given.proofs.walk.find_sides.Goals as goal

pub loop-i-init : goal.loop-i-init
loop-i-init g c =
    let es = plain_edges g.I.IntNumber.whole g.C.EdgeCount.counts c.args.edges.now in
    let starts = c.args.found.now.starts.items in
    let ms = plain_mets g.I.Wide.WideIntNumber.whole c.args.found.now.met.items in
    let l = length-map c.args.edges.now (plain_edge g.I.IntNumber.whole g.C.EdgeCount.counts) in
    record {
      pieces = subst (AreSidesOf (is_filled c.args.rule) es 0) (sym c.new-pieces.ensures.items)
          (sides_none (is_filled c.args.rule) es);
      places = subst (ArePlacesBy (is_filled c.args.rule) es 0 starts ms) (sym c.new-places.ensures.items)
          (places_none (is_filled c.args.rule) es starts ms
          (subst (λ n. AreMetByStarts es n starts ms) (sym l) c.requires.found));
      within = omega arith;
      live = λ e at. subst (λ xs. AreLive g.I.IntNumber.limit es 0 e.a.x
          (plain_edges g.I.IntNumber.whole g.C.EdgeCount.counts xs)) (sym c.new-live.ensures.items)
          (live_none g.I.IntNumber.limit es e.a.x);
    }

pub windings_at_start-start-requires-clause-held : goal.windings_at_start-start-requires-clause-held
windings_at_start-start-requires-clause-held g c =
    let plain = plain_edge g.I.IntNumber.whole g.C.EdgeCount.counts in
    let x = c.index-edges-i.result in
    let here = placed_in_mapped plain c.args.edges.now c.loop-i.i x c.loop-i-test.true c.index-edges-i.is in
    subst (λ xs. All (IsHeld g.I.IntNumber.limit) (map plain xs)) (sym c.deref.ensures.value)
    (c.in_ok-begun.ensures.windings (plain x) here).held

pub windings_at_start-start-requires-clause-edge : goal.windings_at_start-start-requires-clause-edge
windings_at_start-start-requires-clause-edge g c =
    All-mapped_at (IsHeld g.I.IntNumber.limit) (plain_edge g.I.IntNumber.whole g.C.EdgeCount.counts) c.args.edges.now
    c.loop-i.i c.index-edges-i.result c.loop-i-test.true c.index-edges-i.is c.requires.held

pub push_sides-requires-clause-start : goal.push_sides-requires-clause-start
push_sides-requires-clause-start g c = λ e at.
    let plain = plain_edge g.I.IntNumber.whole g.C.EdgeCount.counts in
    let es = plain_edges g.I.IntNumber.whole g.C.EdgeCount.counts c.args.edges.now in
    let x = c.index-edges-i.result in
    let here = placed_in_mapped plain c.args.edges.now c.loop-i.i x c.loop-i-test.true c.index-edges-i.is in
    let b = c.windings_at_start-start.result in
    let live = c.live_at_start.new.live.items in
    subst (λ f. WindsAtStart es f b) (one_entry es c.loop-i.i (plain x) e here at)
    (starts_alike (map plain live) es (plain x) b (c.in_ok-begun.ensures.windings (plain x) here).alike
    (subst (λ xs. WindsAtStart (map plain xs) (plain x) b) c.deref.ensures.value
    c.windings_at_start-start.ensures.winds))

pub index-requires : goal.index-requires
index-requires g c =
    let count = c.requires.found.count in
    let less = c.loop-i-test.true in
    grind (arith, count, less)

pub index-requires-in-loop-i : goal.index-requires-in-loop-i
index-requires-in-loop-i g c =
    let count = c.requires.found.count in
    let less = c.loop-i-test.true in
    grind (arith, count, less)

pub slice_bounds-met-count : goal.slice_bounds-met-count
slice_bounds-met-count g c = starts_rise (plain_edges g.I.IntNumber.whole g.C.EdgeCount.counts c.args.edges.now)
    (length c.args.edges.now) c.args.found.now.starts.items
    (plain_mets g.I.Wide.WideIntNumber.whole c.args.found.now.met.items) c.requires.found c.loop-i.i c.loop-i-test.true
    c.index.result.now c.index-in-loop-i.result.now c.index.ensures c.index-in-loop-i.ensures

pub push_sides-requires-clause-met : goal.push_sides-requires-clause-met
push_sides-requires-clause-met g c = λ e at.
    let met = plain_met g.I.Wide.WideIntNumber.whole in
    let es = plain_edges g.I.IntNumber.whole g.C.EdgeCount.counts c.args.edges.now in
    let items = c.args.found.now.met.items in
    let starts = c.args.found.now.starts.items in
    let n = length c.args.edges.now in
    let s = c.index.result.now in
    let t = c.index-in-loop-i.result.now in
    let i = c.loop-i.i in
    subst (AreMetOf es i e) (sym (mapped_range met c.deref-in-loop-i.result.now s t))
    (subst (λ xs. AreMetOf es i e (slice_range (map met xs) s t)) (sym c.deref-in-loop-i.ensures.value)
    (c.requires.found.of_each i s t e at
    (at_start es n starts (map met items) c.requires.found i c.loop-i-test.true s t c.index.ensures
    c.index-in-loop-i.ensures)
    (at_next es n starts (map met items) c.requires.found i c.loop-i-test.true s t c.index.ensures
    c.index-in-loop-i.ensures)))

pub loop-i-preserved : goal.loop-i-preserved
loop-i-preserved g c =
    let plain = plain_edge g.I.IntNumber.whole g.C.EdgeCount.counts in
    let es = plain_edges g.I.IntNumber.whole g.C.EdgeCount.counts c.args.edges.now in
    let l = length-map c.args.edges.now plain in
    let less = c.loop-i-test.true in
    let at = entry_at es c.loop-i.i (omega (arith, l, less)) in
    let met = plain_met g.I.Wide.WideIntNumber.whole in
    let items = c.args.found.now.met.items in
    let starts = c.args.found.now.starts.items in
    let n = length c.args.edges.now in
    let s = c.index.result.now in
    let t = c.index-in-loop-i.result.now in
    let i = c.loop-i.i in
    let filled = is_filled c.args.rule in
    record {
      pieces = sides_more filled es i c.loop-i.pieces.items c.push_sides.new.pieces.items c.loop-i.invariant.pieces at.0
          at.1 (c.in_ok-push_sides.ensures.pieces at.0 at.1);
      places = places_by_more filled es starts (map met items)
          (subst (λ n. AreMetByStarts es n starts (map met items)) (sym l) c.requires.found) i s t at.0
          c.loop-i.places.items c.push_sides.new.places.items c.loop-i.invariant.places at.1
          (at_start es n starts (map met items) c.requires.found i less s t c.index.ensures c.index-in-loop-i.ensures)
          (at_next es n starts (map met items) c.requires.found i less s t c.index.ensures c.index-in-loop-i.ensures)
          (starts_rise es n starts (map met items) c.requires.found i less s t c.index.ensures
          c.index-in-loop-i.ensures)
          (start_within es n starts (map met items) c.requires.found i less s t c.index.ensures
          c.index-in-loop-i.ensures)
          (subst (λ xs. AddsPlaces filled es at.0 xs c.loop-i.places.items c.push_sides.new.places.items)
          (mapped_range met items s t)
          (subst (λ xs. AddsPlaces filled es at.0 (map met (slice_range xs s t)) c.loop-i.places.items
          c.push_sides.new.places.items) c.deref-in-loop-i.ensures.value
          (c.in_ok-push_sides.ensures.places at.0 at.1)));
      within = c.in_ok-begun.ensures.within;
      live = c.in_ok-begun.ensures.live;
    }

pub returns : goal.returns
returns g c =
    let es = plain_edges g.I.IntNumber.whole g.C.EdgeCount.counts c.args.edges.now in
    let ended = c.loop-i-test.false in
    let within = c.loop-i.auto.i-end in
    let same : c.loop-i.i ≡ length c.args.edges.now = omega (arith, ended, within) in
    record {
      pieces = subst (λ n. AreSidesOf (is_filled c.args.rule) es n c.loop-i.pieces.items) same
          c.loop-i.invariant.pieces;
      places = subst (λ n. ArePlacesBy (is_filled c.args.rule) es n c.args.found.now.starts.items
          (plain_mets g.I.Wide.WideIntNumber.whole c.args.found.now.met.items) c.loop-i.places.items) same
          c.loop-i.invariant.places;
    }

pub offset_bounds-deref-index : goal.offset_bounds-deref-index
offset_bounds-deref-index g c =
    let met = plain_met g.I.Wide.WideIntNumber.whole in
    let es = plain_edges g.I.IntNumber.whole g.C.EdgeCount.counts c.args.edges.now in
    let items = c.args.found.now.met.items in
    let starts = c.args.found.now.starts.items in
    let n = length c.args.edges.now in
    let s = c.index.result.now in
    let t = c.index-in-loop-i.result.now in
    let rise = starts_rise es n starts (map met items) c.requires.found c.loop-i.i c.loop-i-test.true s t
    c.index.ensures c.index-in-loop-i.ensures in
    let within = start_within es n starts (map met items) c.requires.found c.loop-i.i c.loop-i-test.true s t
    c.index.ensures c.index-in-loop-i.ensures in
    let l = length-map items met in
    let len = c.deref-in-loop-i.ensures.len in
    let value : length c.deref-in-loop-i.result.now ≡ length items = ap length c.deref-in-loop-i.ensures.value in
    grind (arith, rise, within, l, value)

pub slice_bounds-met-start : goal.slice_bounds-met-start
slice_bounds-met-start g c =
    let met = plain_met g.I.Wide.WideIntNumber.whole in
    let es = plain_edges g.I.IntNumber.whole g.C.EdgeCount.counts c.args.edges.now in
    let items = c.args.found.now.met.items in
    let starts = c.args.found.now.starts.items in
    let n = length c.args.edges.now in
    let s = c.index.result.now in
    let t = c.index-in-loop-i.result.now in
    let rise = starts_rise es n starts (map met items) c.requires.found c.loop-i.i c.loop-i-test.true s t
    c.index.ensures c.index-in-loop-i.ensures in
    let within = start_within es n starts (map met items) c.requires.found c.loop-i.i c.loop-i-test.true s t
    c.index.ensures c.index-in-loop-i.ensures in
    let l = length-map items met in
    let len = c.deref-in-loop-i.ensures.len in
    let value : length c.deref-in-loop-i.result.now ≡ length items = ap length c.deref-in-loop-i.ensures.value in
    grind (arith, rise, within, l, value)

pub slice_bounds-met-end : goal.slice_bounds-met-end
slice_bounds-met-end g c =
    let met = plain_met g.I.Wide.WideIntNumber.whole in
    let es = plain_edges g.I.IntNumber.whole g.C.EdgeCount.counts c.args.edges.now in
    let items = c.args.found.now.met.items in
    let starts = c.args.found.now.starts.items in
    let n = length c.args.edges.now in
    let s = c.index.result.now in
    let t = c.index-in-loop-i.result.now in
    let rise = starts_rise es n starts (map met items) c.requires.found c.loop-i.i c.loop-i-test.true s t
    c.index.ensures c.index-in-loop-i.ensures in
    let within = start_within es n starts (map met items) c.requires.found c.loop-i.i c.loop-i-test.true s t
    c.index.ensures c.index-in-loop-i.ensures in
    let l = length-map items met in
    let len = c.deref-in-loop-i.ensures.len in
    let value : length c.deref-in-loop-i.result.now ≡ length items = ap length c.deref-in-loop-i.ensures.value in
    grind (arith, rise, within, l, value)
