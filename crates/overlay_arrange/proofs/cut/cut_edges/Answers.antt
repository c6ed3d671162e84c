-- Each edge is held and light, and is led through points in range; a heavy beginning makes a heavy whole.
use Rattle.std.proofs.Common.{◌≡◌, ℕ, ◌≤◌, ◌<◌, ℤ, List, All, length, get_or, sym, subst}
use Rattle.std.proofs.Common.{drop, arith, rules}
use Rattle.std.proofs.lemmas.List.{at_drop_all}
use Rattle.overlay_order.specs.declared.edge.CountedEdge.{CountedEdge}
use Rattle.overlay_geom.specs.Edges.{ends_of}
use Rattle.overlay_geom.specs.Points.{plain_points}
use Rattle.overlay_geom.specs.declared.point.IntPoint.{IntPoint}
use Rattle.overlay_geom.specs.Counts.{Counts}
use Rattle.overlay_geom.proofs.Mapped.{All-mapped_at, Contains-mapped, mapped_rest}
use Rattle.overlay_plane.specs.Carried.{Carried, edges_in}
use Rattle.overlay_plane.specs.DerivedData.{ArePieces}
use Rattle.overlay_order.specs.Content.{carried_edge, carried_edges, plain_edge, plain_edges, IsHeld}
use Rattle.overlay_pairs.proofs.Entries.{placed_in_mapped}
use Rattle.overlay_parts.specs.Stores.IsStoreReached.{unwritten}
use Rattle.overlay_parts.proofs.ReachedStores.{reached_on}
use Rattle.overlay_parts.specs.PartedContents.{covered}
use Rattle.overlay_arrange.specs.Batches.{AddsJoined}
use Rattle.overlay_arrange.specs.Cut.{chain_by, LeadingPoints}
use Rattle.overlay_arrange.specs.Meetings.{plain_meetings, AreLedAlong, ArePointsAt}
use Rattle.overlay_arrange.specs.declared.meetings.Meeting.{Meeting}
use Rattle.overlay_arrange.proofs.CutContents.{weight_of_entry}
use Rattle.overlay_arrange.proofs.LedThrough.{IsLedThrough, led_through, points_in_range}
use Rattle.overlay_arrange.proofs.StandingLists.{joined_both, joined_none}
use Rattle.overlay_arrange.proofs.StandingPieces.{joined_pieces}
use Rattle.overlay_arrange.proofs.CoveredLoops.{loop_heavy, loop_weighed}
use Rattle.overlay_arrange.proofs.CoveredPieces.{all_joined_parts}
use Rattle.overlay_arrange.specs.Parting.{cover_weight}
use Rattle.overlay_arrange.proofs.cut.cut_edges.Goals as goal

pub add-requires-clause-held : goal.add-requires-clause-held
add-requires-clause-held g c =
    All-mapped_at (IsHeld g.I.IntNumber.limit) (plain_edge g.I.IntNumber.whole g.C.EdgeCount.counts) c.args.edges.now
    c.loop-i.i c.index-edges-i.result
    c.loop-i-test.true c.index-edges-i.is c.requires.content.held

pub add-requires-clause-light : goal.add-requires-clause-light
add-requires-clause-light g c =
    let plain = plain_edge g.I.IntNumber.whole g.C.EdgeCount.counts in
    let bound = weight_of_entry (plain_edges g.I.IntNumber.whole g.C.EdgeCount.counts c.args.edges.now)
    (plain c.index-edges-i.result)
    (Contains-mapped plain c.args.edges.now c.loop-i.i c.index-edges-i.result c.loop-i-test.true c.index-edges-i.is) in
    omega (arith, bound, c.requires.content.light)

-- the points of its meetings
points_at : {I C : Type 0} (whole : I → ℤ) (counts : C → Counts) (i : ℕ) (e : CountedEdge I C) (ms : List (Meeting I))
    (ps qs : List (IntPoint I)) →
    ArePointsAt (plain_meetings whole ms) i (ends_of (plain_edge whole counts e)) (plain_points whole ps) → qs ≡ ps →
    ArePointsAt (plain_meetings whole ms) i (ends_of (plain_edge whole counts e)) (plain_points whole qs)
points_at whole counts i e ms ps qs at taken =
    subst (λ rs. ArePointsAt (plain_meetings whole ms) i (ends_of (plain_edge whole counts e)) (plain_points whole rs))
    (sym taken) at

-- lead it
led_at : {I C : Type 0} (limit : ℕ) (whole : I → ℤ) (counts : C → Counts) (edges : List (CountedEdge I C)) (i : ℕ)
    (e : CountedEdge I C) (ms : List (Meeting I)) (ps qs : List (IntPoint I)) →
    All (IsHeld limit) (plain_edges whole counts edges) → i < length edges → e ≡ get_or edges i e →
    ArePointsAt (plain_meetings whole ms) i (ends_of (plain_edge whole counts e)) (plain_points whole ps) → qs ≡ ps →
    (points : LeadingPoints) → AreLedAlong (plain_edges whole counts edges) (plain_meetings whole ms) points →
    IsLedThrough points (plain_edge whole counts e) (plain_points whole qs)
led_at limit whole counts edges i e ms ps qs held within is at taken points leads =
    let at_qs = points_at whole counts i e ms ps qs at taken in
    led_through limit points i (plain_edge whole counts e)
    (All-mapped_at (IsHeld limit) (plain_edge whole counts) edges i e within is held)
    (plain_meetings whole ms) (plain_points whole qs) at_qs
    (leads i (plain_edge whole counts e) (placed_in_mapped (plain_edge whole counts) edges i e within is)
    (plain_points whole qs) at_qs)

pub add-requires-clause-points : goal.add-requires-clause-points
add-requires-clause-points g c =
    points_in_range g.I.IntNumber.limit (plain_meetings g.I.IntNumber.whole c.args.meetings.now) c.loop-i.i
    (ends_of (plain_edge g.I.IntNumber.whole g.C.EdgeCount.counts c.index-edges-i.result))
    (plain_points g.I.IntNumber.whole c.deref.result.now) c.requires.in_range
    (points_at g.I.IntNumber.whole g.C.EdgeCount.counts c.loop-i.i c.index-edges-i.result c.args.meetings.now
    c.put_points_at.new.points.items c.deref.result.now c.in_ok-put_points_at.ensures.ok c.deref.ensures.value)

pub returns-in_err-add-clause-too_many : goal.returns-in_err-add-clause-too_many
returns-in_err-add-clause-too_many g c = λ refused points leads.
    let plain = plain_edge g.I.IntNumber.whole g.C.EdgeCount.counts in
    let i = c.loop-i.i in
    let led = led_at g.I.IntNumber.limit g.I.IntNumber.whole g.C.EdgeCount.counts c.args.edges.now i
    c.index-edges-i.result c.args.meetings.now c.put_points_at.new.points.items c.deref.result.now
    c.requires.content.held c.loop-i-test.true c.index-edges-i.is
    c.in_ok-put_points_at.ensures.ok c.deref.ensures.value points leads in
    loop_heavy g.I.IntNumber.whole g.C.EdgeCount.counts points c.args.edges.now c.args.hidden.now i
    c.index-edges-i.result c.loop-i-test.true c.index-edges-i.is c.hidden_at.result c.hidden_at.ensures _ led.chain
    (edges_in c.loop-i.pieces.content) c.loop-i.pieces.away _ (c.loop-i.invariant.0 points leads) 2147483648
    (c.add.ensures.too_many (search rules))

pub loop-i-preserved : goal.loop-i-preserved
loop-i-preserved g c =
    let plain = plain_edge g.I.IntNumber.whole g.C.EdgeCount.counts in
    let carry = carried_edge g.I.IntNumber.whole g.C.EdgeCount.counts in
    let i = c.loop-i.i in
    let led = led_at g.I.IntNumber.limit g.I.IntNumber.whole g.C.EdgeCount.counts c.args.edges.now i
    c.index-edges-i.result c.args.meetings.now c.put_points_at.new.points.items c.deref.result.now
    c.requires.content.held c.loop-i-test.true c.index-edges-i.is
    c.in_ok-put_points_at.ensures.ok c.deref.ensures.value in
    let merges = g.C.EdgeCount.merges in
    let splits = g.C.EdgeCount.splits in
    let reverses = g.C.EdgeCount.reverses in
    let next = mapped_rest carry c.args.edges.now i c.index-edges-i.result c.loop-i-test.true c.index-edges-i.is in (
      λ points leads. loop_weighed g.I.IntNumber.whole g.C.EdgeCount.counts points c.args.edges.now c.args.hidden.now i
          c.index-edges-i.result c.loop-i-test.true c.index-edges-i.is c.hidden_at.result c.hidden_at.ensures _
          (led points leads).chain (edges_in c.loop-i.pieces.content) c.loop-i.pieces.away _
          (c.loop-i.invariant.0 points leads) (edges_in c.add.new.self.content) c.add.new.self.away
          c.in_ok-add.ensures.weighed,
      λ points leads new adds. (rw next at (c.loop-i.invariant.1 points leads)) new
          (joined_both merges (ArePieces splits reverses (chain_by points))
          (joined_pieces merges splits reverses points (carry c.index-edges-i.result) _ (led points leads).chain
          (led points leads).whole c.in_ok-add.ensures.carried) adds),
      c.in_ok-add.ensures.light,
      reached_on g.C.EdgeCount.writes _ _ _ c.loop-i.invariant.3 c.in_ok-add.ensures.store,
    )

pub loop-i-init : goal.loop-i-init
loop-i-init g c =
    rw (c.in_ok-pieces.ensures.empty, c.in_ok-pieces.ensures.none) (
      λ points leads. omega arith,
      λ points leads new adds. adds,
      omega arith,
      unwritten _,
    )

pub returns-clause-ok : goal.returns-clause-ok
returns-clause-ok g c = λ points leads.
    let whole = g.I.IntNumber.whole in
    let counts = g.C.EdgeCount.counts in
    let gives = ArePieces g.C.EdgeCount.splits g.C.EdgeCount.reverses (chain_by points) in
    let past : length c.args.edges.now ≤ c.loop-i.i = search rules in
    let left = at_drop_all (λ (fs : List (CountedEdge _ _)). carried_edges whole counts fs) c.args.edges.now
    c.loop-i.i past in
    let none = at_drop_all (λ (fs : List (CountedEdge _ _)). cover_weight points
    (covered (carried_edges whole counts fs) (drop c.loop-i.i c.args.hidden.now))) c.args.edges.now c.loop-i.i past in
    let all = c.loop-i.invariant.0 points leads in
    let light = c.loop-i.invariant.2 in
    all_joined_parts g.C.EdgeCount.merges g.C.EdgeCount.splits g.C.EdgeCount.reverses points c.args.hidden.now
    (c.loop-i.invariant.1 points leads c.loop-i.pieces.content
    (subst (λ (xs : List (Carried g.row.C.Denot)). AddsJoined g.C.EdgeCount.merges gives xs c.loop-i.pieces.content
    c.loop-i.pieces.content) (sym left) (joined_none g.C.EdgeCount.merges gives c.loop-i.pieces.content)))
    (omega (arith, all, light, none))

pub returns-in_err-add-clause-store : goal.returns-in_err-add-clause-store
returns-in_err-add-clause-store g c =
    reached_on g.C.EdgeCount.writes _ _ _ c.loop-i.invariant.3 c.in_err-add.ensures.store
