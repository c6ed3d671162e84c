-- The one contour of the shape is the one given, or reversed.
use Rattle.std.proofs.Common.{[], ◌∷◌, sym, ap, ◌∙◌}
use Rattle.std.proofs.lemmas.Result.{IfOk-weaker}
use Rattle.std.specs.Prelude.{reverse}
use Rattle.overlay_geom.specs.Points.{plain_point, plain_points}
use Rattle.i_overlay.specs.Outcome.{shapes_left}
use Rattle.overlay_geom.proofs.Mapped.{map-reverse}
use Rattle.i_overlay.proofs.simplifying.shapes.shapes_left.Goals as goal

pub returns-in_ok-points-in-AsGiven : goal.returns-in_ok-points-in-AsGiven
returns-in_ok-points-in-AsGiven g c = record {
  ok = let whole = g.I.IntNumber.whole in
      IfOk-weaker c.one_shape.result _ _ (λ v is. is
      ∙ ap (λ items. (plain_points whole items ∷ []) ∷ []) c.in_ok-points-in-AsGiven.ensures.ok
      ∙ ap (λ o. shapes_left o (plain_points whole c.args.contour.now)) (sym c.in-AsGiven.is)) c.one_shape.ensures.ok;
}

pub returns-in_ok-points-in-Reversed : goal.returns-in_ok-points-in-Reversed
returns-in_ok-points-in-Reversed g c = record {
  ok = let whole = g.I.IntNumber.whole in
      IfOk-weaker c.one_shape-in-Reversed.result _ _ (λ v is. is
      ∙ ap (λ items. (plain_points whole items ∷ []) ∷ []) (c.reverse.ensures.items
      ∙ ap reverse c.in_ok-points-in-Reversed.ensures.ok)
      ∙ ap (λ ps. (ps ∷ []) ∷ []) (map-reverse (plain_point whole) c.args.contour.now)
      ∙ ap (λ o. shapes_left o (plain_points whole c.args.contour.now)) (sym c.in-Reversed.is))
      c.one_shape-in-Reversed.ensures.ok;
}
