-- The edge is below where it has points on the flank and is under these.
use Rattle.std.proofs.Common.{◌≡◌, true, false, ◌∙◌}
use Rattle.overlay_geom.specs.Edges.{ends_of}
use Rattle.overlay_geom.specs.Plane.{in_plane}
use Rattle.overlay_geom.specs.Points.{plain_point}
use Rattle.overlay_order.specs.Content.{plain_edge}
use Rattle.overlay_sectors.specs.Rays.{plain_ray}
use Rattle.overlay_sectors.specs.Sectors.{spans_beside, is_low, is_under_near}
use Rattle.overlay_sectors.proofs.NearTests.{both_so, not_both_so}
use Rattle.overlay_sectors.proofs.near.is_below_near.Goals as goal

pub returns-then-spans_beside : goal.returns-then-spans_beside
returns-then-spans_beside g c =
    let e = ends_of (plain_edge g.I.IntNumber.whole g.C.EdgeCount.counts c.args.e.now) in
    let p = in_plane (plain_point g.I.IntNumber.whole c.args.p) in
    let spanned : spans_beside c.args.flank e p ≡ true = cc in
    both_so (spans_beside c.args.flank e p) c.is_under.result
    (is_under_near e p (is_low c.args.flank (plain_ray g.I.IntNumber.whole c.args.ray) e)) spanned c.is_under.ensures

pub returns-else-spans_beside : goal.returns-else-spans_beside
returns-else-spans_beside g c =
    let e = ends_of (plain_edge g.I.IntNumber.whole g.C.EdgeCount.counts c.args.e.now) in
    let p = in_plane (plain_point g.I.IntNumber.whole c.args.p) in
    let aside : spans_beside c.args.flank e p ≡ false = cc in
    let result : c.spans_beside.result ≡ false = cc in
    result ∙ not_both_so (spans_beside c.args.flank e p)
    (is_under_near e p (is_low c.args.flank (plain_ray g.I.IntNumber.whole c.args.ray) e)) aside
