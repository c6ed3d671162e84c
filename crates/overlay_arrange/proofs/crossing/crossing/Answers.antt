-- The crossing lies part of the way along e; two cross products tell how far.
use Rattle.std.proofs.Common.{◌≡◌, ℤ, pos, sym, ◌∙◌, rules}
use Rattle.overlay_geom.specs.Edges.{ends_of}
use Rattle.overlay_geom.specs.Plane.{Edge, Point}
use Rattle.overlay_geom.proofs.Comparisons.{same_from_compared}
use Rattle.overlay_plane.specs.CutPoints.{part_way, to_line, across, crossing}
use Rattle.overlay_plane.proofs.CrossingPoints.{part_way_across}
use Rattle.overlay_plane.proofs.SharedCrossings.{crossing_at_end, crossing_at_start}
use Rattle.overlay_order.specs.Content.{plain_edge}
use Rattle.overlay_arrange.proofs.crossing.crossing.Goals as goal

pub part_way-requires-clause-part : goal.part_way-requires-clause-part
part_way-requires-clause-part g c =
    let e = ends_of (plain_edge g.I.IntNumber.whole g.C.EdgeCount.counts c.args.e.now) in
    let f = ends_of (plain_edge g.I.IntNumber.whole g.C.EdgeCount.counts c.args.f.now) in
    let t : g.I.Wide.WideIntNumber.whole c.magnitude-t.result ≡ to_line e f = search rules in
    let d : g.I.Wide.WideIntNumber.whole c.magnitude-d.result ≡ across e f = search rules in
    rw (t, d) (part_way_across e f c.requires.across).1

pub part_way-requires-clause-divides : goal.part_way-requires-clause-divides
part_way-requires-clause-divides g c =
    let e = ends_of (plain_edge g.I.IntNumber.whole g.C.EdgeCount.counts c.args.e.now) in
    let f = ends_of (plain_edge g.I.IntNumber.whole g.C.EdgeCount.counts c.args.f.now) in
    let d : g.I.Wide.WideIntNumber.whole c.magnitude-d.result ≡ across e f = search rules in
    rw d (part_way_across e f c.requires.across).2

pub part_way-requires-2-clause-part : goal.part_way-requires-2-clause-part
part_way-requires-2-clause-part g c =
    let e = ends_of (plain_edge g.I.IntNumber.whole g.C.EdgeCount.counts c.args.e.now) in
    let f = ends_of (plain_edge g.I.IntNumber.whole g.C.EdgeCount.counts c.args.f.now) in
    let t : g.I.Wide.WideIntNumber.whole c.magnitude-t.result ≡ to_line e f = search rules in
    let d : g.I.Wide.WideIntNumber.whole c.magnitude-d.result ≡ across e f = search rules in
    rw (t, d) (part_way_across e f c.requires.across).1

pub part_way-requires-2-clause-divides : goal.part_way-requires-2-clause-divides
part_way-requires-2-clause-divides g c =
    let e = ends_of (plain_edge g.I.IntNumber.whole g.C.EdgeCount.counts c.args.e.now) in
    let f = ends_of (plain_edge g.I.IntNumber.whole g.C.EdgeCount.counts c.args.f.now) in
    let d : g.I.Wide.WideIntNumber.whole c.magnitude-d.result ≡ across e f = search rules in
    rw d (part_way_across e f c.requires.across).2

-- the point that lies so far along e in both coordinates is the crossing
read_crossing : (e f : Edge) (x y t d : ℤ) → t ≡ to_line e f → d ≡ across e f → x ≡ part_way e.a.x e.b.x t d →
    y ≡ part_way e.a.y e.b.y t d →
    (let p : Point = record { x = x; y = y } in p ≡ crossing e f)
read_crossing e f x y t d t_is d_is x_is y_is = rw (x_is, y_is, t_is, d_is)

pub returns : goal.returns
returns g c =
    let e = ends_of (plain_edge g.I.IntNumber.whole g.C.EdgeCount.counts c.args.e.now) in
    let f = ends_of (plain_edge g.I.IntNumber.whole g.C.EdgeCount.counts c.args.f.now) in
    let t : g.I.Wide.WideIntNumber.whole c.magnitude-t.result ≡ to_line e f = search rules in
    let d : g.I.Wide.WideIntNumber.whole c.magnitude-d.result ≡ across e f = search rules in
    read_crossing e f _ _ _ _ t d c.part_way.ensures c.part_way-2.ensures

pub returns-then-is_eq : goal.returns-then-is_eq
returns-then-is_eq g c =
    let e = ends_of (plain_edge g.I.IntNumber.whole g.C.EdgeCount.counts c.args.e.now) in
    let f = ends_of (plain_edge g.I.IntNumber.whole g.C.EdgeCount.counts c.args.f.now) in
    let t : g.I.Wide.WideIntNumber.whole c.magnitude-t.result ≡ to_line e f = search rules in
    sym (crossing_at_start e f c.requires.across
    (sym t ∙ same_from_compared _ (pos 0) c.sign.result c.is_eq.result c.sign.ensures c.is_eq.ensures c.if-is_eq.true))

pub returns-then-is_eq-2 : goal.returns-then-is_eq-2
returns-then-is_eq-2 g c =
    let e = ends_of (plain_edge g.I.IntNumber.whole g.C.EdgeCount.counts c.args.e.now) in
    let f = ends_of (plain_edge g.I.IntNumber.whole g.C.EdgeCount.counts c.args.f.now) in
    let t : g.I.Wide.WideIntNumber.whole c.magnitude-t.result ≡ to_line e f = search rules in
    let d : g.I.Wide.WideIntNumber.whole c.magnitude-d.result ≡ across e f = search rules in
    sym (crossing_at_end e f c.requires.across
    (sym t ∙ same_from_compared _ _ c.compare.result c.is_eq-2.result c.compare.ensures c.is_eq-2.ensures
    c.if-is_eq-2.true ∙ d))
