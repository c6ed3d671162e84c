-- Over or under both ends the heights tell, and between them the cross product.
use Rattle.std.proofs.Common.{sym, ◌∙◌}
use Rattle.overlay_geom.specs.Edges.{ends_of}
use Rattle.overlay_geom.specs.Plane.{in_plane, side}
use Rattle.overlay_geom.specs.Points.{plain_point}
use Rattle.overlay_order.specs.Content.{plain_edge}
use Rattle.overlay_relate.proofs.ByEdge.{in_range_between}
use Rattle.overlay_relate.proofs.OnEdges.{side-whole}
use Rattle.overlay_sectors.proofs.NearTests.{over_is_high, over_is_apart, under_is_low, under_is_apart}
use Rattle.overlay_sectors.proofs.NearTests.{sign_is_high, sign_is_level}
use Rattle.overlay_sectors.proofs.near.height_over.Goals as goal

pub returns-then-is_over_both-clause-above : goal.returns-then-is_over_both-clause-above
returns-then-is_over_both-clause-above g c =
    let e = ends_of (plain_edge g.I.IntNumber.whole g.C.EdgeCount.counts c.args.e.now) in
    let v = plain_point g.I.IntNumber.whole c.args.p in
    over_is_high e v c.requires.from c.requires.to c.requires.wide
    (sym c.is_over_both.ensures ∙ c.if-is_over_both.true)

pub returns-then-is_over_both-clause-level : goal.returns-then-is_over_both-clause-level
returns-then-is_over_both-clause-level g c =
    let e = ends_of (plain_edge g.I.IntNumber.whole g.C.EdgeCount.counts c.args.e.now) in
    let v = plain_point g.I.IntNumber.whole c.args.p in
    over_is_apart e v c.requires.from c.requires.to c.requires.wide
    (sym c.is_over_both.ensures ∙ c.if-is_over_both.true)

pub returns-then-is_under_both-clause-above : goal.returns-then-is_under_both-clause-above
returns-then-is_under_both-clause-above g c =
    let e = ends_of (plain_edge g.I.IntNumber.whole g.C.EdgeCount.counts c.args.e.now) in
    let v = plain_point g.I.IntNumber.whole c.args.p in
    under_is_low e v c.requires.from c.requires.to c.requires.wide
    (sym c.is_under_both.ensures ∙ c.if-is_under_both.true)

pub returns-then-is_under_both-clause-level : goal.returns-then-is_under_both-clause-level
returns-then-is_under_both-clause-level g c =
    let e = ends_of (plain_edge g.I.IntNumber.whole g.C.EdgeCount.counts c.args.e.now) in
    let v = plain_point g.I.IntNumber.whole c.args.p in
    under_is_apart e v c.requires.from c.requires.to c.requires.wide
    (sym c.is_under_both.ensures ∙ c.if-is_under_both.true)

pub returns-clause-above : goal.returns-clause-above
returns-clause-above g c =
    let e = ends_of (plain_edge g.I.IntNumber.whole g.C.EdgeCount.counts c.args.e.now) in
    let v = plain_point g.I.IntNumber.whole c.args.p in
    rw c.sign.ensures (sign_is_high (g.I.Wide.WideIntNumber.whole c.cross_at.result) (side e (in_plane v))
    (c.cross_at.ensures.value ∙ sym (side-whole e v)))

pub returns-clause-level : goal.returns-clause-level
returns-clause-level g c =
    let e = ends_of (plain_edge g.I.IntNumber.whole g.C.EdgeCount.counts c.args.e.now) in
    let v = plain_point g.I.IntNumber.whole c.args.p in
    rw c.sign.ensures (sign_is_level (g.I.Wide.WideIntNumber.whole c.cross_at.result) (side e (in_plane v))
    (c.cross_at.ensures.value ∙ sym (side-whole e v)))

pub cross_at-requires-clause-q : goal.cross_at-requires-clause-q
cross_at-requires-clause-q g c =
    let e = ends_of (plain_edge g.I.IntNumber.whole g.C.EdgeCount.counts c.args.e.now) in
    let v = plain_point g.I.IntNumber.whole c.args.p in
    in_range_between e v c.requires.from c.requires.to (sym c.is_over_both.ensures ∙ c.if-is_over_both.false)
    (sym c.is_under_both.ensures ∙ c.if-is_under_both.false) g.I.IntNumber.limit c.requires.edge.a_in_range
    c.requires.edge.b_in_range
