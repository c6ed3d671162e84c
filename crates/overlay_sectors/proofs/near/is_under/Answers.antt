-- The height of the point over the edge tells.
use Rattle.std.proofs.Common.{int_lt, pos, sym, ap, ◌∙◌}
use Rattle.std.specs.Ordering.{int_eq, is_eq, is_gt}
use Rattle.overlay_geom.specs.Edges.{ends_of}
use Rattle.overlay_geom.specs.Plane.{in_plane, side}
use Rattle.overlay_geom.specs.Points.{plain_point}
use Rattle.overlay_order.specs.Content.{plain_edge}
use Rattle.overlay_sectors.specs.Rays.{plain_ray}
use Rattle.overlay_sectors.specs.Sectors.{is_low}
use Rattle.overlay_sectors.proofs.NearTests.{spanned, above_is, level_is, under_is_not}
use Rattle.overlay_sectors.proofs.near.is_under.Goals as goal

pub height_over-requires-clause-from : goal.height_over-requires-clause-from
height_over-requires-clause-from g c =
    (spanned c.args.flank (ends_of (plain_edge g.I.IntNumber.whole g.C.EdgeCount.counts c.args.e.now))
    (plain_point g.I.IntNumber.whole c.args.p) c.requires.spans).from

pub height_over-requires-clause-to : goal.height_over-requires-clause-to
height_over-requires-clause-to g c =
    (spanned c.args.flank (ends_of (plain_edge g.I.IntNumber.whole g.C.EdgeCount.counts c.args.e.now))
    (plain_point g.I.IntNumber.whole c.args.p) c.requires.spans).to

pub height_over-requires-clause-wide : goal.height_over-requires-clause-wide
height_over-requires-clause-wide g c =
    (spanned c.args.flank (ends_of (plain_edge g.I.IntNumber.whole g.C.EdgeCount.counts c.args.e.now))
    (plain_point g.I.IntNumber.whole c.args.p) c.requires.spans).wide

pub returns-in-Greater : goal.returns-in-Greater
returns-in-Greater g c =
    let e = ends_of (plain_edge g.I.IntNumber.whole g.C.EdgeCount.counts c.args.e.now) in
    let p = in_plane (plain_point g.I.IntNumber.whole c.args.p) in
    above_is (int_lt (pos 0) (side e p)) (int_eq (side e p) (pos 0))
    (is_low c.args.flank (plain_ray g.I.IntNumber.whole c.args.ray) e)
    (sym c.height_over.ensures.above ∙ ap is_gt c.in-Greater.is)

pub returns-in-Equal : goal.returns-in-Equal
returns-in-Equal g c =
    let e = ends_of (plain_edge g.I.IntNumber.whole g.C.EdgeCount.counts c.args.e.now) in
    let p = in_plane (plain_point g.I.IntNumber.whole c.args.p) in
    level_is (int_lt (pos 0) (side e p)) (int_eq (side e p) (pos 0))
    (is_low c.args.flank (plain_ray g.I.IntNumber.whole c.args.ray) e) c.is_low.result
    (sym c.height_over.ensures.above ∙ ap is_gt c.in-Equal.is)
    (sym c.height_over.ensures.level ∙ ap is_eq c.in-Equal.is) c.is_low.ensures

pub returns-in-Less : goal.returns-in-Less
returns-in-Less g c =
    let e = ends_of (plain_edge g.I.IntNumber.whole g.C.EdgeCount.counts c.args.e.now) in
    let p = in_plane (plain_point g.I.IntNumber.whole c.args.p) in
    under_is_not (int_lt (pos 0) (side e p)) (int_eq (side e p) (pos 0))
    (is_low c.args.flank (plain_ray g.I.IntNumber.whole c.args.ray) e)
    (sym c.height_over.ensures.above ∙ ap is_gt c.in-Less.is)
    (sym c.height_over.ensures.level ∙ ap is_eq c.in-Less.is)
