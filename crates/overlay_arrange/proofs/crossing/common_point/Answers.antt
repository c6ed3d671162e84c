-- An end of f on e's line is the point in which the two cross.
use Rattle.std.proofs.Common.{sym}
use Rattle.overlay_geom.specs.Edges.{ends_of}
use Rattle.overlay_plane.proofs.SharedCrossings.{crossing_at_other_end, crossing_at_other_start}
use Rattle.overlay_order.specs.Content.{plain_edge}
use Rattle.overlay_arrange.proofs.crossing.common_point.Goals as goal

pub returns-then-is_on_line : goal.returns-then-is_on_line
returns-then-is_on_line g c =
    let e = ends_of (plain_edge g.I.IntNumber.whole g.C.EdgeCount.counts c.args.e.now) in
    let f = ends_of (plain_edge g.I.IntNumber.whole g.C.EdgeCount.counts c.args.f.now) in
    sym (crossing_at_other_start e f c.requires.forth c.requires.back (c.is_on_line.ensures.0 c.if-is_on_line.true))

pub returns-then-is_on_line-2 : goal.returns-then-is_on_line-2
returns-then-is_on_line-2 g c =
    let e = ends_of (plain_edge g.I.IntNumber.whole g.C.EdgeCount.counts c.args.e.now) in
    let f = ends_of (plain_edge g.I.IntNumber.whole g.C.EdgeCount.counts c.args.f.now) in
    sym (crossing_at_other_end e f c.requires.forth c.requires.back
    (c.is_on_line-else-is_on_line.ensures.0 c.if-is_on_line-2.true))
