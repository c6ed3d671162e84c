-- The edge spans, and the point is level with it.
use Rattle.std.proofs.Common.{◌≡◌, true, false, pos, ◌∙◌}
use Rattle.std.specs.Ordering.{int_eq}
use Rattle.overlay_geom.specs.Edges.{ends_of}
use Rattle.overlay_geom.specs.Plane.{in_plane, side}
use Rattle.overlay_geom.specs.Points.{plain_point}
use Rattle.overlay_order.specs.Content.{plain_edge}
use Rattle.overlay_sectors.specs.Sectors.{spans_beside}
use Rattle.overlay_sectors.proofs.NearTests.{spanned, both_so, not_both_so}
use Rattle.overlay_sectors.proofs.near.leads_from.Goals as goal

pub height_over-requires-clause-from : goal.height_over-requires-clause-from
height_over-requires-clause-from g c =
    (spanned c.args.flank (ends_of (plain_edge g.I.IntNumber.whole g.C.EdgeCount.counts c.args.e.now))
    (plain_point g.I.IntNumber.whole c.args.p) (cc)).from

pub height_over-requires-clause-to : goal.height_over-requires-clause-to
height_over-requires-clause-to g c =
    (spanned c.args.flank (ends_of (plain_edge g.I.IntNumber.whole g.C.EdgeCount.counts c.args.e.now))
    (plain_point g.I.IntNumber.whole c.args.p) (cc)).to

pub height_over-requires-clause-wide : goal.height_over-requires-clause-wide
height_over-requires-clause-wide g c =
    (spanned c.args.flank (ends_of (plain_edge g.I.IntNumber.whole g.C.EdgeCount.counts c.args.e.now))
    (plain_point g.I.IntNumber.whole c.args.p) (cc)).wide

pub returns-then-spans_beside : goal.returns-then-spans_beside
returns-then-spans_beside g c =
    let e = ends_of (plain_edge g.I.IntNumber.whole g.C.EdgeCount.counts c.args.e.now) in
    let p = in_plane (plain_point g.I.IntNumber.whole c.args.p) in
    let spanned : spans_beside c.args.flank e p ≡ true = cc in
    both_so (spans_beside c.args.flank e p) c.is_eq.result (int_eq (side e p) (pos 0)) spanned (cc)

pub returns-else-spans_beside : goal.returns-else-spans_beside
returns-else-spans_beside g c =
    let e = ends_of (plain_edge g.I.IntNumber.whole g.C.EdgeCount.counts c.args.e.now) in
    let p = in_plane (plain_point g.I.IntNumber.whole c.args.p) in
    let aside : spans_beside c.args.flank e p ≡ false = cc in
    let result : c.spans_beside.result ≡ false = cc in
    result ∙ not_both_so (spans_beside c.args.flank e p) (int_eq (side e p) (pos 0)) aside
