-- One location more has its number.
use Rattle.std.proofs.Common.{◌++◌, ◌∷◌, [], ap₂, sym, ◌∙◌}
use Rattle.std.proofs.lemmas.List.{map_more}
use Rattle.overlay_geom.proofs.Mapped.{mapped_whole}
use Rattle.overlay_relate.specs.declared.location.PointLocation.TheVariants.{Inside}
use Rattle.polyover_calls.specs.Located.{number_of}
use Rattle.polyover_calls.proofs.locate.numbers_of.Goals as goal

pub loop-location-preserved : goal.loop-location-preserved
loop-location-preserved c =
    c.in_ok-push.ensures.items ∙ ap₂ (λ xs n. xs ++ n ∷ []) c.loop-location.invariant c.number_of.ensures
    ∙ sym (map_more number_of c.args.locations.now c.loop-location.location-index Inside c.loop-location-test.true)

pub returns : goal.returns
returns c = record {
  numbers = c.loop-location.invariant
      ∙ mapped_whole number_of c.args.locations.now c.loop-location.location-index c.loop-location-test.false;
}
