-- The span of a flank.
use Rattle.std.proofs.Common.{◌≡◌, sym, subst, ◌∙◌}
use Rattle.overlay_geom.specs.Edges.{ends_of}
use Rattle.overlay_geom.specs.Plane.{in_plane}
use Rattle.overlay_geom.specs.Points.{plain_point}
use Rattle.overlay_order.specs.Content.{plain_edge}
use Rattle.overlay_sectors.specs.Sectors.{spans_beside}
use Rattle.overlay_sectors.proofs.NearTests.{span_left, span_right}
use Rattle.overlay_sectors.proofs.near.spans_beside.Goals as goal

pub returns-in-Left : goal.returns-in-Left
returns-in-Left g c =
    let e = ends_of (plain_edge g.I.IntNumber.whole g.C.EdgeCount.counts c.args.e.now) in
    let v = plain_point g.I.IntNumber.whole c.args.p in
    subst (λ h. c.spans_left.result ≡ spans_beside h e (in_plane v)) (sym c.in-Left.is)
    (c.spans_left.ensures ∙ sym (span_left e v))

pub returns-in-Right : goal.returns-in-Right
returns-in-Right g c =
    let e = ends_of (plain_edge g.I.IntNumber.whole g.C.EdgeCount.counts c.args.e.now) in
    let v = plain_point g.I.IntNumber.whole c.args.p in
    subst (λ h. c.spans_right.result ≡ spans_beside h e (in_plane v)) (sym c.in-Right.is)
    (c.spans_right.ensures ∙ sym (span_right e v))
