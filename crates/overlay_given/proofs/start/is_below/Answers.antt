-- The side of a whole point is a cross product.
use Rattle.std.proofs.Common.{◌≡◌, true, false, ◌&&◌, int_lt, int_le}
use Rattle.overlay_geom.specs.Edges.{ends_of}
use Rattle.overlay_geom.specs.Points.{plain_point}
use Rattle.overlay_order.specs.Content.{plain_edge}
use Rattle.overlay_given.proofs.BelowWhole.{below_whole, left_whole}
use Rattle.overlay_given.proofs.start.is_below.Goals as goal

pub returns-then-spans : goal.returns-then-spans
returns-then-spans g c =
    let e = ends_of (plain_edge g.I.IntNumber.whole g.C.EdgeCount.counts c.args.f.now) in
    let v = plain_point g.I.IntNumber.whole c.args.v in
    let is = below_whole e v in
    let left = left_whole e v _ c.cross_at.ensures.value in
    let spanned : (int_le e.a.x v.x && int_lt v.x e.b.x) ≡ true = cc in
    rw (is, spanned) (cc)

pub returns-else-spans : goal.returns-else-spans
returns-else-spans g c =
    let e = ends_of (plain_edge g.I.IntNumber.whole g.C.EdgeCount.counts c.args.f.now) in
    let v = plain_point g.I.IntNumber.whole c.args.v in
    let is = below_whole e v in
    let aside : (int_le e.a.x v.x && int_lt v.x e.b.x) ≡ false = cc in
    rw (is, aside) (cc)
