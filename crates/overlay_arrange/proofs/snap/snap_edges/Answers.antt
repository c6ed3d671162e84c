-- Each edge is held and light, and is led through points in range, which make its snapped chain.
use Rattle.std.proofs.Common.{◌≤◌, List, length, drop, inl, sym, subst, arith, rules}
use Rattle.std.proofs.lemmas.List.{at_drop_all}
use Rattle.overlay_geom.specs.Points.{plain_points, AllInRange}
use Rattle.overlay_geom.proofs.Mapped.{All-mapped_at, Contains-mapped, mapped_rest}
use Rattle.overlay_plane.specs.Carried.{Carried, edges_in}
use Rattle.overlay_plane.specs.DerivedData.{ArePieces}
use Rattle.overlay_plane.specs.SnapPoints.{snap_points}
use Rattle.overlay_order.specs.Content.{carried_edge, carried_edges, plain_edge, plain_edges, IsHeld}
use Rattle.overlay_order.specs.declared.edge.CountedEdge.{CountedEdge}
use Rattle.overlay_pairs.proofs.Entries.{placed_in_mapped}
use Rattle.overlay_parts.specs.PartedContents.{covered}
use Rattle.overlay_parts.specs.Stores.IsStoreReached.{unwritten}
use Rattle.overlay_parts.proofs.ReachedStores.{reached_on}
use Rattle.overlay_arrange.specs.Batches.{AddsJoined}
use Rattle.overlay_arrange.specs.Cut.{chain_by}
use Rattle.overlay_arrange.specs.Parting.{cover_weight}
use Rattle.overlay_arrange.proofs.CoveredLoops.{loop_heavy, loop_weighed}
use Rattle.overlay_arrange.proofs.CoveredPieces.{all_joined_parts}
use Rattle.overlay_arrange.proofs.CutContents.{weight_of_entry}
use Rattle.overlay_arrange.proofs.LedThrough.{IsLedThrough}
use Rattle.overlay_arrange.proofs.SnappedThrough.{snapped_in_range, snapped_through}
use Rattle.overlay_arrange.proofs.StandingLists.{joined_both, joined_none}
use Rattle.overlay_arrange.proofs.StandingPieces.{joined_pieces}
use Rattle.overlay_arrange.proofs.snap.snap_edges.Goals as goal

pub take_near-requires-clause-one : goal.take_near-requires-clause-one
take_near-requires-clause-one g c =
    All-mapped_at (IsHeld g.I.IntNumber.limit) (plain_edge g.I.IntNumber.whole g.C.EdgeCount.counts) c.args.edges.now
    c.loop-i.i c.index-edges-i.result c.loop-i-test.true c.index-edges-i.is c.requires.content.held

pub keep_met-requires : goal.keep_met-requires
keep_met-requires g c =
    All-mapped_at (IsHeld g.I.IntNumber.limit) (plain_edge g.I.IntNumber.whole g.C.EdgeCount.counts) c.args.edges.now
    c.loop-i.i c.index-edges-i.result c.loop-i-test.true c.index-edges-i.is c.requires.content.held

pub add-requires-clause-held : goal.add-requires-clause-held
add-requires-clause-held g c =
    All-mapped_at (IsHeld g.I.IntNumber.limit) (plain_edge g.I.IntNumber.whole g.C.EdgeCount.counts) c.args.edges.now
    c.loop-i.i c.index-edges-i.result c.loop-i-test.true c.index-edges-i.is c.requires.content.held

pub add-requires-clause-light : goal.add-requires-clause-light
add-requires-clause-light g c =
    let plain = plain_edge g.I.IntNumber.whole g.C.EdgeCount.counts in
    let bound = weight_of_entry (plain_edges g.I.IntNumber.whole g.C.EdgeCount.counts c.args.edges.now)
    (plain c.index-edges-i.result)
    (Contains-mapped plain c.args.edges.now c.loop-i.i c.index-edges-i.result c.loop-i-test.true c.index-edges-i.is) in
    omega (arith, bound, c.requires.content.light)

pub add-requires-clause-points : goal.add-requires-clause-points
add-requires-clause-points g c =
    let whole = g.I.IntNumber.whole in
    let plain = plain_edge whole g.C.EdgeCount.counts in
    subst (λ ps. AllInRange g.I.IntNumber.limit (plain_points whole ps)) (sym c.deref.ensures.value)
    (snapped_in_range g.I.IntNumber.limit (plain_edges whole g.C.EdgeCount.counts c.args.edges.now)
    c.requires.content.held (plain_points whole c.args.hot.now) c.requires.hot c.loop-i.i (plain c.index-edges-i.result)
    (placed_in_mapped plain c.args.edges.now c.loop-i.i c.index-edges-i.result c.loop-i-test.true c.index-edges-i.is)
    _ _ _ c.in_ok-take_near.ensures.ok c.keep_met.ensures c.in_ok-sort_along.ensures.ok)

pub returns-in_err-add-clause-too_many : goal.returns-in_err-add-clause-too_many
returns-in_err-add-clause-too_many g c = λ refused.
    let whole = g.I.IntNumber.whole in
    let plain = plain_edge whole g.C.EdgeCount.counts in
    let es = plain_edges whole g.C.EdgeCount.counts c.args.edges.now in
    let i = c.loop-i.i in
    let e = plain c.index-edges-i.result in
    let led = subst (λ ps. IsLedThrough (snap_points es) e (plain_points whole ps)) (sym c.deref.ensures.value)
    (snapped_through g.I.IntNumber.limit es c.requires.content.held (plain_points whole c.args.hot.now) c.requires.hot
    i e (placed_in_mapped plain c.args.edges.now i c.index-edges-i.result c.loop-i-test.true c.index-edges-i.is)
    _ _ _ c.in_ok-take_near.ensures.ok c.keep_met.ensures c.in_ok-sort_along.ensures.ok) in
    loop_heavy whole g.C.EdgeCount.counts (snap_points es) c.args.edges.now c.args.hidden.now i
    c.index-edges-i.result c.loop-i-test.true c.index-edges-i.is c.hidden_at.result c.hidden_at.ensures _ led.chain
    (edges_in c.loop-i.pieces.content) c.loop-i.pieces.away _ c.loop-i.invariant.0 2147483648
    (c.add.ensures.too_many (search rules))

pub loop-i-preserved : goal.loop-i-preserved
loop-i-preserved g c =
    let whole = g.I.IntNumber.whole in
    let plain = plain_edge whole g.C.EdgeCount.counts in
    let carry = carried_edge whole g.C.EdgeCount.counts in
    let es = plain_edges whole g.C.EdgeCount.counts c.args.edges.now in
    let points = snap_points es in
    let i = c.loop-i.i in
    let e = plain c.index-edges-i.result in
    let led = subst (λ ps. IsLedThrough points e (plain_points whole ps)) (sym c.deref.ensures.value)
    (snapped_through g.I.IntNumber.limit es c.requires.content.held (plain_points whole c.args.hot.now) c.requires.hot
    i e (placed_in_mapped plain c.args.edges.now i c.index-edges-i.result c.loop-i-test.true c.index-edges-i.is)
    _ _ _ c.in_ok-take_near.ensures.ok c.keep_met.ensures c.in_ok-sort_along.ensures.ok) in
    let merges = g.C.EdgeCount.merges in
    let splits = g.C.EdgeCount.splits in
    let reverses = g.C.EdgeCount.reverses in
    let next = mapped_rest carry c.args.edges.now i c.index-edges-i.result c.loop-i-test.true c.index-edges-i.is in (
      loop_weighed whole g.C.EdgeCount.counts points c.args.edges.now c.args.hidden.now i
          c.index-edges-i.result c.loop-i-test.true c.index-edges-i.is c.hidden_at.result c.hidden_at.ensures _
          led.chain (edges_in c.loop-i.pieces.content) c.loop-i.pieces.away _ c.loop-i.invariant.0
          (edges_in c.add.new.self.content) c.add.new.self.away c.in_ok-add.ensures.weighed,
      λ new adds. (rw next at c.loop-i.invariant.1) new
          (joined_both merges (ArePieces splits reverses (chain_by points))
          (joined_pieces merges splits reverses points (carry c.index-edges-i.result) _ led.chain led.whole
          c.in_ok-add.ensures.carried) adds),
      c.in_ok-add.ensures.light,
      reached_on g.C.EdgeCount.writes _ _ _ c.loop-i.invariant.3 c.in_ok-add.ensures.store,
      c.in_ok-take_near.ensures.strips,
    )

pub loop-i-init : goal.loop-i-init
loop-i-init g c =
    rw (c.in_ok-pieces.ensures.empty, c.in_ok-pieces.ensures.none) (
      omega arith,
      λ new adds. adds,
      omega arith,
      unwritten _,
      inl (search rules),
    )

pub returns-clause-ok : goal.returns-clause-ok
returns-clause-ok g c =
    let whole = g.I.IntNumber.whole in
    let counts = g.C.EdgeCount.counts in
    let points = snap_points (plain_edges whole counts c.args.edges.now) in
    let gives = ArePieces g.C.EdgeCount.splits g.C.EdgeCount.reverses (chain_by points) in
    let past : length c.args.edges.now ≤ c.loop-i.i = search rules in
    let left = at_drop_all (λ (fs : List (CountedEdge _ _)). carried_edges whole counts fs) c.args.edges.now
    c.loop-i.i past in
    let none = at_drop_all (λ (fs : List (CountedEdge _ _)). cover_weight points
    (covered (carried_edges whole counts fs) (drop c.loop-i.i c.args.hidden.now))) c.args.edges.now c.loop-i.i past in
    let all = c.loop-i.invariant.0 in
    let light = c.loop-i.invariant.2 in
    all_joined_parts g.C.EdgeCount.merges g.C.EdgeCount.splits g.C.EdgeCount.reverses points c.args.hidden.now
    (c.loop-i.invariant.1 c.loop-i.pieces.content
    (subst (λ (xs : List (Carried g.row.C.Denot)). AddsJoined g.C.EdgeCount.merges gives xs c.loop-i.pieces.content
    c.loop-i.pieces.content) (sym left) (joined_none g.C.EdgeCount.merges gives c.loop-i.pieces.content)))
    (omega (arith, all, light, none))

pub returns-in_err-add-clause-store : goal.returns-in_err-add-clause-store
returns-in_err-add-clause-store g c =
    reached_on g.C.EdgeCount.writes _ _ _ c.loop-i.invariant.3 c.in_err-add.ensures.store
