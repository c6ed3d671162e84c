-- The two comparisons of doubled coordinates are the two tests of the span.
use Rattle.std.proofs.Common.{◌≡◌, true, false, pos, ◌+ℤ◌, ◌*ℤ◌, int_le}
use Rattle.overlay_geom.specs.Edges.{ends_of}
use Rattle.overlay_geom.proofs.Midpoints.{is_from-midpoint, is_to-midpoint}
use Rattle.overlay_order.specs.Content.{plain_edge}
use Rattle.overlay_graph.proofs.fill_rays.is_middle_in_span.Goals as goal

pub returns-then-is_le : goal.returns-then-is_le
returns-then-is_le g c =
    let e = ends_of (plain_edge g.I.IntNumber.whole g.C.EdgeCount.counts c.args.e.now) in
    let f = ends_of (plain_edge g.I.IntNumber.whole g.C.EdgeCount.counts c.args.f.now) in
    let from = is_from-midpoint e f _ _ c.plus.ensures c.plus-middle.ensures in
    let to = is_to-midpoint e f _ _ c.plus-middle.ensures c.plus-2.ensures in
    let starts : int_le (e.a.x *ℤ pos 2) (f.a.x +ℤ f.b.x) ≡ true = cc in
    rw starts (cc)

pub returns-else-is_le : goal.returns-else-is_le
returns-else-is_le g c =
    let e = ends_of (plain_edge g.I.IntNumber.whole g.C.EdgeCount.counts c.args.e.now) in
    let f = ends_of (plain_edge g.I.IntNumber.whole g.C.EdgeCount.counts c.args.f.now) in
    let from = is_from-midpoint e f _ _ c.plus.ensures c.plus-middle.ensures in
    let starts : int_le (e.a.x *ℤ pos 2) (f.a.x +ℤ f.b.x) ≡ false = cc in
    rw starts (cc)
