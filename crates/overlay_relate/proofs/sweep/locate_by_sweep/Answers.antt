-- One query more: what the calls ask, and what is told then.
use Rattle.std.proofs.Common.{◌≡◌, ◌+◌, ◌≤◌, ◌≤ℤ◌, ◌<ℤ◌, List, length, drop, get_or, sym, ◌∙◌, subst}
use Rattle.std.proofs.Common.{arith, rules}
use Rattle.std.specs.List.{All}
use Rattle.std.proofs.lemmas.Int.{ints}
use Rattle.std.proofs.lemmas.List.{length-map, length-set}
use Rattle.std.proofs.lemmas.List.Elements.{All-weaker}
use Rattle.overlay_geom.specs.Numbered.{Numbered}
use Rattle.overlay_geom.specs.Plane.{Point, Edge, in_plane}
use Rattle.overlay_geom.specs.Points.{plain_point, plain_points, InRange}
use Rattle.overlay_geom.specs.Resolved.{plain_edges}
use Rattle.overlay_geom.proofs.Numbered.{told_more}
use Rattle.overlay_scan.specs.Scan.{MayMoveTo}
use Rattle.overlay_relate.specs.Locations.{IsLocatedBy}
use Rattle.overlay_relate.specs.Queries.{plain_query, plain_queries, AreQueries}
use Rattle.overlay_relate.specs.Sweeps.{wide_edge, wide_edges, inside_above, AreOfContour, AreByStart, AreTold, IsSwept}
use Rattle.overlay_relate.specs.Sweeps.{AreSweepable, IsFound}
use Rattle.overlay_relate.specs.Walls.{AreWalls, AreContourWalls}
use Rattle.overlay_relate.specs.declared.location.PointLocation.TheVariants.{Outside}
use Rattle.overlay_relate.proofs.Answered.{answers_none}
use Rattle.overlay_relate.proofs.Asked.{later_queries, all_answered}
use Rattle.overlay_relate.proofs.Highest.{found, answers_rise}
use Rattle.overlay_relate.proofs.QueryAtHand.{query_read, holds_of_point, holds_from_there, put_in_read}
use Rattle.overlay_relate.proofs.Swept.{nothing_swept, moved_on}
use Rattle.overlay_relate.proofs.sweep.locate_by_sweep.Goals as goal

pub loop-query-init : goal.loop-query-init
loop-query-init g c =
    let whole = g.I.IntNumber.whole in
    let fs = wide_edges whole c.in_ok-starting.starting.items in
    let es = plain_edges whole c.args.edges.now in
    let none = c.new-inside.ensures.items in (
      search rules,
      subst (λ (xs : List _). length xs ≤ length c.in_ok-starting.starting.items) (sym none) (omega arith),
      subst (λ (xs : List _). IsSwept g.I.IntNumber.limit fs (length xs) (g.S.Scan.content c.args.scan.now)) (sym none)
          (nothing_swept g.I.IntNumber.limit fs (g.S.Scan.content c.args.scan.now) c.requires.empty),
      λ k d lt. subst (λ t. MayMoveTo (get_or (plain_queries whole c.deref-query-items.result.now) k d).item.x t)
          (sym c.requires.empty) tt,
      subst (AreTold es fs) (sym none) (answers_none (λ e t. t ≡ inside_above es e)),
      λ k d lt. absurd (omega (arith, lt)),
    )

pub put_up_to-requires-clause-edges : goal.put_up_to-requires-clause-edges
put_up_to-requires-clause-edges g c =
    subst (λ es. AreSweepable (wide_edges g.I.IntNumber.whole es)) (sym c.deref.ensures.value)
    c.in_ok-starting.ensures.order.sweepable

pub put_up_to-requires-clause-within : goal.put_up_to-requires-clause-within
put_up_to-requires-clause-within g c =
    subst (λ (es : List _). length c.loop-query.inside.items ≤ length es) (sym c.deref.ensures.value)
    c.loop-query.invariant.1

pub put_up_to-requires-clause-moves : goal.put_up_to-requires-clause-moves
put_up_to-requires-clause-moves g c =
    let whole = g.I.IntNumber.whole in
    let points = plain_points whole c.args.points.now in
    let qs = plain_queries whole c.deref-query-items.result.now in
    let q = plain_query whole c.query-item.result in
    let i = c.loop-query.query-index in
    let at = query_read whole points c.deref-query-items.result.now c.in_ok-queries.queries.items
    c.deref-query-items.ensures.value c.in_ok-queries.ensures.queries i c.query-item.result c.loop-query-test.true
    c.query-item.is in
    holds_from_there points qs i q at (λ r. MayMoveTo r.item.x (g.S.Scan.content c.loop-query.scan))
    c.loop-query.invariant.3

pub put_up_to-requires-clause-swept : goal.put_up_to-requires-clause-swept
put_up_to-requires-clause-swept g c =
    subst (λ es. IsSwept g.I.IntNumber.limit (wide_edges g.I.IntNumber.whole es) (length c.loop-query.inside.items)
    (g.S.Scan.content c.loop-query.scan)) (sym c.deref.ensures.value)
    c.loop-query.invariant.2

pub highest_up_to-highest-requires-clause-point : goal.highest_up_to-highest-requires-clause-point
highest_up_to-highest-requires-clause-point g c =
    let whole = g.I.IntNumber.whole in
    let points = plain_points whole c.args.points.now in
    let qs = plain_queries whole c.deref-query-items.result.now in
    let q = plain_query whole c.query-item.result in
    let i = c.loop-query.query-index in
    let at = query_read whole points c.deref-query-items.result.now c.in_ok-queries.queries.items
    c.deref-query-items.ensures.value c.in_ok-queries.ensures.queries i c.query-item.result c.loop-query-test.true
    c.query-item.is in
    holds_of_point points qs i q at (InRange g.I.IntNumber.limit) c.requires.points

pub highest_up_to-highest-requires-clause-state : goal.highest_up_to-highest-requires-clause-state
highest_up_to-highest-requires-clause-state g c = c.in_ok-put_up_to.ensures.swept.state

pub highest_up_to-highest-requires-clause-moves : goal.highest_up_to-highest-requires-clause-moves
highest_up_to-highest-requires-clause-moves g c = c.in_ok-put_up_to.ensures.moves

pub location-requires-clause-point : goal.location-requires-clause-point
location-requires-clause-point g c =
    let whole = g.I.IntNumber.whole in
    let points = plain_points whole c.args.points.now in
    let qs = plain_queries whole c.deref-query-items.result.now in
    let q = plain_query whole c.query-item.result in
    let i = c.loop-query.query-index in
    let at = query_read whole points c.deref-query-items.result.now c.in_ok-queries.queries.items
    c.deref-query-items.ensures.value c.in_ok-queries.ensures.queries i c.query-item.result c.loop-query-test.true
    c.query-item.is in
    holds_of_point points qs i q at (InRange g.I.IntNumber.limit) c.requires.points

pub location-requires-clause-within : goal.location-requires-clause-within
location-requires-clause-within g c =
    let n = length c.put_up_to.new.inside.items in
    let within : n ≤ length c.in_ok-starting.starting.items = subst (λ (es : List _). n ≤ length es)
    c.deref.ensures.value c.in_ok-put_up_to.ensures.within in
    subst (λ (xs : List _). length xs ≤ length c.deref-in-loop-query.result.now)
    (sym c.deref-in-loop-query-2.ensures.value)
    (subst (λ (es : List _). n ≤ length es) (sym c.deref-in-loop-query.ensures.value) within)

pub location-requires-clause-walls : goal.location-requires-clause-walls
location-requires-clause-walls g c =
    let whole = g.I.IntNumber.whole in
    subst (λ ws. AreContourWalls (plain_edges whole ws)) (sym c.deref-in-loop-query-3.ensures.value)
    (record {
      edges = plain_edges whole c.args.edges.now;
      contour = c.requires.contour;
      walls = c.in_ok-walls.ensures.walls;
    })

pub location-requires-clause-found : goal.location-requires-clause-found
location-requires-clause-found g c =
    let whole = g.I.IntNumber.whole in
    let limit = g.I.IntNumber.limit in
    let fs = wide_edges whole c.in_ok-starting.starting.items in
    let q = plain_query whole c.query-item.result in
    let s = g.S.Scan.content c.put_up_to.new.scan in
    let n = length c.put_up_to.new.inside.items in
    let e = c.in_ok-put_up_to.ensures in
    let put = put_in_read (wide_edge whole) limit n s q.item c.deref.result.now c.in_ok-starting.starting.items
    c.deref.ensures.value e.swept e.rest e.within e.moves in
    let past : n ≤ c.len.result = let m = put.within in let l = c.len.ensures in
    let h = c.in_ok-starting.starting.ok.0 in
    let mapped = length-map c.in_ok-starting.starting.items (wide_edge whole) in
    omega arith in
    let there = found limit fs n s put.swept q.item put.moves put.rest c.len.result past put.within
    c.highest_up_to-highest.result
    (c.highest_up_to-highest.ensures.value (answers_rise limit fs n s put.swept q.item put.moves)) in
    subst (λ es. IsFound (wide_edges whole es) q.item (length c.deref-in-loop-query-2.result.now)
    c.highest_up_to-highest.result) (sym c.deref-in-loop-query.ensures.value)
    (subst (λ (xs : List _). IsFound fs q.item (length xs) c.highest_up_to-highest.result)
    (sym c.deref-in-loop-query-2.ensures.value) there)

pub index_mut-requires : goal.index_mut-requires
index_mut-requires g c =
    let whole = g.I.IntNumber.whole in
    let points = plain_points whole c.args.points.now in
    let i = c.loop-query.query-index in
    let at = query_read whole points c.deref-query-items.result.now c.in_ok-queries.queries.items
    c.deref-query-items.ensures.value c.in_ok-queries.ensures.queries i c.query-item.result c.loop-query-test.true
    c.query-item.is in
    let counted = c.loop-query.invariant.0 in
    let held = c.loop-query.answers.ok.0 in
    let less = at.placed in
    let mapped = length-map c.args.points.now (plain_point whole) in
    omega arith

pub loop-query-preserved : goal.loop-query-preserved
loop-query-preserved g c =
    let limit = g.I.IntNumber.limit in
    let whole = g.I.IntNumber.whole in
    let points = plain_points whole c.args.points.now in
    let qs = plain_queries whole c.deref-query-items.result.now in
    let q = plain_query whole c.query-item.result in
    let i = c.loop-query.query-index in
    let fs = wide_edges whole c.in_ok-starting.starting.items in
    let s = g.S.Scan.content c.put_up_to.new.scan in
    let n = length c.put_up_to.new.inside.items in
    let at = query_read whole points c.deref-query-items.result.now c.in_ok-queries.queries.items
    c.deref-query-items.ensures.value c.in_ok-queries.ensures.queries i c.query-item.result c.loop-query-test.true
    c.query-item.is in
    let e = c.in_ok-put_up_to.ensures in
    let put = put_in_read (wide_edge whole) limit n s q.item c.deref.result.now c.in_ok-starting.starting.items
    c.deref.ensures.value e.swept e.rest e.within e.moves in
    let es = plain_edges whole c.args.edges.now in
    let told : AreTold es fs c.put_up_to.new.inside.items =
    subst (λ ds. AreOfContour es → AreByStart es (wide_edges whole ds) →
    AreTold es (wide_edges whole ds) c.loop-query.inside.items →
    AreTold es (wide_edges whole ds) c.put_up_to.new.inside.items)
    c.deref.ensures.value (e.told es) c.requires.contour c.in_ok-starting.ensures.order
    c.loop-query.invariant.4 in
    let counted : length c.loop-query.answers.items ≡ length points = c.loop-query.invariant.0
    ∙ sym (length-map c.args.points.now (plain_point whole)) in
    let right : IsLocatedBy es (in_plane q.item) c.location.result =
    subst (λ (ds : _). AreByStart es (wide_edges whole ds) →
    AreTold es (wide_edges whole ds) c.deref-in-loop-query-2.result.now →
    AreWalls es (plain_edges whole c.deref-in-loop-query-3.result.now) →
    IsLocatedBy es (in_plane q.item) c.location.result) c.deref-in-loop-query.ensures.value
    (c.location.ensures es c.requires.edges c.requires.contour) c.in_ok-starting.ensures.order
    (subst (AreTold es fs) (sym c.deref-in-loop-query-2.ensures.value) told)
    (subst (λ ws. AreWalls es (plain_edges whole ws)) (sym c.deref-in-loop-query-3.ensures.value)
    c.in_ok-walls.ensures.walls) in (
      length-set c.loop-query.answers.items q.place c.location.result ∙ c.loop-query.invariant.0,
      subst (λ (es : List _). n ≤ length es) c.deref.ensures.value e.within,
      moved_on limit fs n s put.swept q.item.x put.moves
          (All-weaker (λ (e : Edge). q.item.x <ℤ e.a.x) (λ e. q.item.x ≤ℤ e.a.x)
          (λ e l. omega (arith, ints)) (drop n fs) put.rest)
          (g.S.Scan.content c.highest_up_to-highest.new.scan) c.highest_up_to-highest.ensures.content
          c.highest_up_to-highest.ensures.state,
      subst (λ t. All (λ (r : Numbered Point). MayMoveTo r.item.x t) (drop (i + 1) qs))
          (sym c.highest_up_to-highest.ensures.content) (later_queries qs at.asked.order i q at.within at.read),
      told,
      told_more (λ p l. IsLocatedBy es (in_plane p) l) Outside points qs at.asked.numbered c.loop-query.answers.items
          counted i q at.within at.read c.location.result right c.loop-query.invariant.5,
    )

pub returns : goal.returns
returns g c = record {
  located = let whole = g.I.IntNumber.whole in
      let points = plain_points whole c.args.points.now in
      let qs = plain_queries whole c.deref-query-items.result.now in
      let asked : AreQueries points qs = subst (λ rs. AreQueries points (plain_queries whole rs))
      (sym c.deref-query-items.ensures.value) c.in_ok-queries.ensures.queries in
      let past : length qs ≤ c.loop-query.query-index = rw length-map c.loop-query-test.false in
      all_answered (λ p l. IsLocatedBy (plain_edges whole c.args.edges.now) (in_plane p) l) Outside points qs
      asked.numbered c.loop-query.answers.items
      (c.loop-query.invariant.0 ∙ sym (length-map c.args.points.now (plain_point whole))) c.loop-query.query-index past
      c.loop-query.invariant.5;
}
