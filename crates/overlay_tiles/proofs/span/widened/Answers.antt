-- One point more.
use Rattle.std.proofs.Common.{◌++◌, ◌∷◌, [], sym, subst, take, ap, ◌∙◌}
use Rattle.std.proofs.lemmas.List.{append_assoc}
use Rattle.std.specs.Prelude.{Some}
use Rattle.overlay_geom.proofs.Mapped.{mapped_more, mapped_whole}
use Rattle.overlay_geom.specs.Points.{plain_point, plain_points}
use Rattle.overlay_tiles.specs.Spans.{IsBoxFound}
use Rattle.overlay_tiles.proofs.span.widened.Goals as goal

pub loop-point-preserved : goal.loop-point-preserved
loop-point-preserved g c = λ seen box.
    let whole = g.I.IntNumber.whole in
    let i = c.loop-point.point-index in
    let points = c.args.points.now in
    let before = plain_points whole (take i points) in
    let p = plain_point whole c.point-item.result in
    subst (λ ps. IsBoxFound whole ps (Some c.with.result))
    (append_assoc seen before (p ∷ []) ∙ ap (λ ps. seen ++ ps)
    (sym (mapped_more (plain_point whole) points i c.point-item.result c.loop-point-test.true c.point-item.is)))
    (c.with.ensures (seen ++ before) (c.loop-point.invariant seen box))

pub returns : goal.returns
returns g c = λ seen box.
    let whole = g.I.IntNumber.whole in
    subst (λ ps. IsBoxFound whole (seen ++ ps) c.loop-point.wider)
    (mapped_whole (plain_point whole) c.args.points.now c.loop-point.point-index c.loop-point-test.false)
    (c.loop-point.invariant seen box)
