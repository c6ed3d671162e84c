-- The cross product decides for edges from one point.
use Rattle.std.proofs.Common.{◌≡◌, true, refl, ap, sym, ◌∙◌}
use Rattle.std.specs.Ordering.{is_eq, is_lt}
use Rattle.std.specs.declared.cmp.Ordering.{Ordering}
use Rattle.std.specs.declared.cmp.Ordering.TheVariants.{Less, Equal, Greater}
use Rattle.overlay_geom.specs.Edges.{ends_of}
use Rattle.overlay_geom.proofs.PointComparisons.{point_cmp-is_tie}
use Rattle.overlay_plane.proofs.TiedStarts.{tied_before}
use Rattle.overlay_order.specs.Content.{plain_edge}
use Rattle.overlay_graph.proofs.starts.compare_starts.Goals as goal

-- an answer that is found equal is `Equal`
equal_from : (o : Ordering) → is_eq o ≡ true → o ≡ Equal
equal_from Less h = cc
equal_from Equal h = refl
equal_from Greater h = cc

pub returns-then-is_same : goal.returns-then-is_same
returns-then-is_same g c =
    let e = ends_of (plain_edge g.I.IntNumber.whole g.C.EdgeCount.counts c.args.e.now) in
    let f = ends_of (plain_edge g.I.IntNumber.whole g.C.EdgeCount.counts c.args.f.now) in
    ap is_lt c.sign.ensures
    ∙ tied_before e f _ (equal_from _ (point_cmp-is_tie e.a f.a ∙ sym c.if-is_same.ensures)) c.cross_at.ensures.value
