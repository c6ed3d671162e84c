-- The height lies below both ends, or the corner lies far below the line.
use Rattle.std.proofs.Common.{sym, ap, ◌∙◌}
use Rattle.overlay_geom.specs.Edges.{ends_of}
use Rattle.overlay_geom.specs.Points.{plain_point}
use Rattle.overlay_geom.proofs.PointOrder.{Decides-point_lt}
use Rattle.overlay_plane.proofs.Tests.{lt_from_test}
use Rattle.overlay_order.specs.Content.{plain_edge}
use Rattle.overlay_arrange.specs.PixelRuns.{is_far_below}
use Rattle.overlay_arrange.proofs.PassedCorners.{passes_above_below_ends, passes_above_corner}
use Rattle.overlay_arrange.proofs.pixel_runs.passes_above.Goals as goal

pub returns-then-is_less-2 : goal.returns-then-is_less-2
returns-then-is_less-2 g c = λ is.
    let whole = g.I.IntNumber.whole in
    let e = plain_edge whole g.C.EdgeCount.counts c.args.e.now in
    let y = whole c.args.y in
    passes_above_below_ends e ((Decides-point_lt e.a e.b).0 c.requires.one.forward).x (whole c.args.x) y
    (lt_from_test y e.a.y (sym c.is_less.ensures ∙ c.if-is_less.true))
    (lt_from_test y e.b.y (sym c.is_less-then-is_less.ensures ∙ is))

pub returns-else-is_less-2 : goal.returns-else-is_less-2
returns-else-is_less-2 g c = λ is.
    let whole = g.I.IntNumber.whole in
    let e = plain_edge whole g.C.EdgeCount.counts c.args.e.now in
    let same = ap (λ v. is_far_below (ends_of e) (plain_point whole v)) (sym c.new.ensures) in
    passes_above_corner e ((Decides-point_lt e.a e.b).0 c.requires.one.forward).x (whole c.args.x) (whole c.args.y)
    (same ∙ sym c.is_far_below.ensures ∙ is)

pub returns-then-is_less-3 : goal.returns-then-is_less-3
returns-then-is_less-3 g c = λ is.
    let whole = g.I.IntNumber.whole in
    let e = plain_edge whole g.C.EdgeCount.counts c.args.e.now in
    let same = ap (λ v. is_far_below (ends_of e) (plain_point whole v)) (sym c.new-then-is_less-3.ensures) in
    passes_above_corner e ((Decides-point_lt e.a e.b).0 c.requires.one.forward).x (whole c.args.x) (whole c.args.y)
    (same ∙ sym c.is_far_below-then-is_less-3.ensures ∙ is)
