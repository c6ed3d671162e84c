-- A point that is no end is tested by the line, and an end is not met inside.
use Rattle.std.proofs.Common.{not, ◌&&◌, ap, sym, ◌∙◌}
use Rattle.std.proofs.lemmas.Bool.{false≢true}
use Rattle.overlay_geom.specs.Edges.{ends_of}
use Rattle.overlay_geom.specs.Points.{plain_point}
use Rattle.overlay_plane.specs.SnapPoints.{line_meets}
use Rattle.overlay_order.specs.Content.{plain_edge}
use Rattle.overlay_arrange.proofs.PixelBounds.{end_not_inside, inside_where, outside}
use Rattle.overlay_arrange.proofs.pixel.meets_pixel_inside.Goals as goal

pub returns-then-not-is_end_of : goal.returns-then-not-is_end_of
returns-then-not-is_end_of g c =
    let e = plain_edge g.I.IntNumber.whole g.C.EdgeCount.counts c.args.e.now in
    let v = plain_point g.I.IntNumber.whole c.args.v in
    c.line_meets.ensures
    ∙ ap (λ b. b && line_meets (ends_of e) v) (sym c.if-is_in_box.true ∙ c.is_in_box.ensures)
    ∙ inside_where e v (λ end. false≢true (sym c.if-not-is_end_of.true ∙ c.is_end_of.ensures.1 end))

pub returns-else-not-is_end_of : goal.returns-else-not-is_end_of
returns-else-not-is_end_of g c =
    let e = plain_edge g.I.IntNumber.whole g.C.EdgeCount.counts c.args.e.now in
    let v = plain_point g.I.IntNumber.whole c.args.v in
    ap not c.if-not-is_end_of.false ∙ end_not_inside e v (c.is_end_of.ensures.0 c.if-not-is_end_of.false)

pub returns-else-is_in_box : goal.returns-else-is_in_box
returns-else-is_in_box g c =
    let e = plain_edge g.I.IntNumber.whole g.C.EdgeCount.counts c.args.e.now in
    let v = plain_point g.I.IntNumber.whole c.args.v in
    c.if-is_in_box.false ∙ outside e v (sym c.is_in_box.ensures ∙ c.if-is_in_box.false)
