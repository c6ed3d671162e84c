-- One location more is answered.
use Rattle.std.proofs.Common.{◌++◌, ◌∷◌, [], ap₂, sym, ◌∙◌}
use Rattle.std.proofs.lemmas.List.{map_more}
use Rattle.overlay_geom.proofs.Mapped.{mapped_whole}
use Rattle.overlay_relate.specs.Locations.{is_inside}
use Rattle.overlay_relate.specs.declared.location.PointLocation.TheVariants.{Inside}
use Rattle.overlay_relate.proofs.containment.are_inside.Goals as goal

pub loop-l-preserved : goal.loop-l-preserved
loop-l-preserved g c =
    (c.in_ok-push.ensures).items ∙ ap₂ (λ xs t. xs ++ t ∷ []) c.loop-l.invariant c.is_inside.ensures
    ∙ sym (map_more is_inside c.args.locations.now c.loop-l.l-index Inside c.loop-l-test.true)

pub returns : goal.returns
returns g c = record {
  inside = c.loop-l.invariant ∙ mapped_whole is_inside c.args.locations.now c.loop-l.l-index
      c.loop-l-test.false;
}
