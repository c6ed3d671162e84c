-- One number more.
use Rattle.std.proofs.Common.{◌∷◌, ◌++◌, [], sym, ap, ap₂, ◌∙◌}
use Rattle.overlay_geom.proofs.Mapped.{mapped_more, mapped_whole}
use Rattle.overlay_extract.proofs.RolesRead.{number_of, numbers_alike}
use Rattle.overlay_extract.proofs.binding.known_shapes.shapes_known.Goals as goal

pub loop-i-preserved : goal.loop-i-preserved
loop-i-preserved g c =
    c.in_ok-push.ensures.items
    ∙ ap₂ (λ ns n. ns ++ n ∷ []) c.loop-i.invariant (c.shape.ensures ∙ ap number_of (sym c.index-contours-i.is))
    ∙ sym (mapped_more number_of c.args.contours.now c.loop-i.i c.index-contours-i.result c.loop-i-test.true
    c.index-contours-i.is)

pub returns : goal.returns
returns g c = record {
  ok = c.loop-i.invariant ∙ mapped_whole number_of c.args.contours.now c.loop-i.i c.loop-i-test.false
      ∙ sym (numbers_alike g.I.IntNumber.whole c.args.contours.now);
}
